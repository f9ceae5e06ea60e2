-- The four forms of a call's promise.
-- Assumes nothing.
use Rattle.head.specs.declared.Command.{Command}
use Rattle.head.specs.declared.Command.TheVariants.{Len, Capacity, Weight, IsEmpty, IsFull, Front, Back, Peek, Contains, List as ListFront, ListBack, Get, Pop, PopFront, PopBack, Put, PutWithWeight, Clear, Retain, Resize, PutOrModify, TryPutOrModify, GetMut, PeekMut, FrontMut, BackMut}
use Rattle.head.specs.declared.Form.{Form}
use Rattle.head.specs.declared.Form.TheVariants.{Reading, Listing, Acting, Handing}

-- the form of a call: whether it changes the cache, and whether it hands out rows
abbrev pub form_of : Command → Form
form_of Len = Reading
form_of Capacity = Reading
form_of Weight = Reading
form_of IsEmpty = Reading
form_of IsFull = Reading
form_of Front = Reading
form_of Back = Reading
form_of (Peek c) = Reading
form_of (Contains c) = Reading
form_of ListFront = Listing
form_of ListBack = Listing
form_of (Get c) = Acting
form_of (Pop c) = Acting
form_of PopFront = Acting
form_of PopBack = Acting
form_of Clear = Acting
form_of (GetMut c v) = Acting
form_of (PeekMut c v) = Acting
form_of (FrontMut v) = Acting
form_of (BackMut v) = Acting
form_of (Put c s v) = Handing
form_of (PutWithWeight c s v w) = Handing
form_of (Retain q) = Handing
form_of (Resize c) = Handing
form_of (PutOrModify c s n) = Handing
form_of (TryPutOrModify c s n most) = Handing
