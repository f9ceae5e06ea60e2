-- Which code a call looks for, and what its one search answers.
-- Assumes nothing.
use Rattle.std.specs.Prelude.{ℕ, ◌*◌, List, Option, None, Some}
use Rattle.head.specs.declared.Code.{Code}
use Rattle.head.specs.declared.Command.{Command}
use Rattle.head.specs.declared.Command.TheVariants.{Len, Capacity, Weight, IsEmpty, IsFull, Front, Back, Peek, Contains, List as ListFront, ListBack, Get, Pop, PopFront, PopBack, Put, PutWithWeight, Clear, Retain, Resize, PutOrModify, TryPutOrModify, GetMut, PeekMut, FrontMut, BackMut}
use Rattle.crc.specs.Home.{home_of}
use Rattle.table.specs.declared.Search.{Search}
use Rattle.table.specs.declared.Search.TheVariants.{Empty}
use Rattle.table.specs.Cells.{sought}

-- the code that a command looks for
unfoldable pub wanted_by : Command → Option Code
wanted_by Len = None
wanted_by Capacity = None
wanted_by Weight = None
wanted_by IsEmpty = None
wanted_by IsFull = None
wanted_by Front = None
wanted_by Back = None
wanted_by (Peek c) = Some c
wanted_by (Contains c) = Some c
wanted_by ListFront = None
wanted_by ListBack = None
wanted_by (Get c) = Some c
wanted_by (Pop c) = Some c
wanted_by PopFront = None
wanted_by PopBack = None
wanted_by (Put c s v) = Some c
wanted_by (PutWithWeight c s v w) = Some c
wanted_by Clear = None
wanted_by (Retain q) = None
wanted_by (Resize c) = None
wanted_by (PutOrModify c s n) = Some c
wanted_by (TryPutOrModify c s n most) = Some c
wanted_by (GetMut c v) = Some c
wanted_by (PeekMut c v) = Some c
wanted_by (FrontMut v) = None
wanted_by (BackMut v) = None

-- the answer of the search in the table of n slots; where nothing is looked for, none is made, and no cell is read
abbrev pub search_for : Option Code → ℕ → List ℕ → List ℕ → Search
search_for (Some code) n cells codes = sought (home_of n) (2 * n) cells codes code.0
search_for None n cells codes = Empty 0 0
