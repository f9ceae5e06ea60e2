-- What the form of a call says of its verdict: what reads stays, and only listings and calls that hand out have rows.
-- Assumes nothing.
use Prim.Native.Nat.{ℕ}
use mathlib.Core.List.{[]}
use mathlib.Core.Path.{◌≡◌, refl, sym, ap, ◌∙◌}
use native.Mathlib.Omega.{arith}
use borrow.Author.Tests.{le-leb}
use Rattle.head.specs.declared.Command.{Command}
use Rattle.head.specs.declared.Command.TheVariants.{Len, Capacity, Weight, IsEmpty, IsFull, Front, Back, Peek, Contains, List as ListFront, ListBack, Get, Pop, PopFront, PopBack, Put, PutWithWeight, Clear, Retain, Resize, PutOrModify, TryPutOrModify, GetMut, PeekMut, FrontMut, BackMut}
use Rattle.head.specs.declared.Form.{Form}
use Rattle.head.specs.declared.Form.TheVariants.{Reading, Listing, Acting, Handing}
use Rattle.head.specs.Forms.{form_of}
use Rattle.model.specs.Desk.{Desk, Found, find, first, last}
use Rattle.model.specs.Moves.{stay}
use Rattle.model.specs.Calls.{Verdict, showing, popping, setting}
use Rattle.model.specs.Perform.{Cache, verdict, handed, carried, perform}
use Rattle.model.proofs.Verdicts.{on_found_lem, on_plain_lem, on_lent}

-- what a verdict of a call of this form is like
abbrev pub Formed : Form → Verdict → Type 0
Formed Reading v = (v.rows ≡ []) × (v.move ≡ stay)
Formed Listing v = v.move ≡ stay
Formed Acting v = v.rows ≡ []
Formed Handing v = Unit {0}

-- a verdict by a found entry, of a call that reads
looked : (f : Found) → Formed Reading (showing f)
looked f = on_found_lem (Formed Reading) f (λ q. (refl, refl)) (λ i e q. (refl, refl))

popped : (f : Found) → Formed Acting (popping f)
popped f = on_found_lem (Formed Acting) f (λ q. refl) (λ i e q. refl)

assigned : (f : Found) (v : ℕ) (d : Desk) → Formed Acting (setting f v d)
assigned f v d = on_plain_lem (Formed Acting) d.kind refl (λ p. on_found_lem (Formed Acting) f (λ q. refl) (λ i e q. refl))

-- every call is as its form says
pub formed : (m : Command) (d : Desk) → Formed (form_of m) (verdict m d)
unfolding verdict
formed Len d = (refl, refl)
formed Capacity d = (refl, refl)
formed Weight d = (refl, refl)
formed IsEmpty d = (refl, refl)
formed IsFull d = (refl, refl)
formed Front d = looked (first d.entries)
formed Back d = looked (last d.entries)
formed (Peek c) d = on_found_lem (Formed Reading) (find c.0 d.entries) (λ q. (refl, refl)) (λ i e q. (refl, refl))
formed (Contains c) d = (refl, refl)
formed ListFront d = refl
formed ListBack d = refl
formed (Get c) d = on_found_lem (Formed Acting) (find c.0 d.entries) (λ q. refl) (λ i e q. refl)
formed (Pop c) d = on_found_lem (Formed Acting) (find c.0 d.entries) (λ q. refl) (λ i e q. refl)
formed PopFront d = popped (first d.entries)
formed PopBack d = popped (last d.entries)
formed Clear d = refl
formed (GetMut c v) d = on_plain_lem (Formed Acting) d.kind refl (λ p. on_found_lem (Formed Acting) (find c.0 d.entries) (λ q. refl) (λ i e q. refl))
formed (PeekMut c v) d = assigned (find c.0 d.entries) v d
formed (FrontMut v) d = assigned (first d.entries) v d
formed (BackMut v) d = assigned (last d.entries) v d
formed (Put c s v) d = tt
formed (PutWithWeight c s v w) d = tt
formed (Retain q) d = tt
formed (Resize c) d = tt
formed (PutOrModify c s n) d = tt
formed (TryPutOrModify c s n most) d = tt

-- a verdict without rows is handed out whatever is lent
handed_whole : (lent : ℕ) (v : Verdict) → v.rows ≡ [] → handed lent v ≡ v
handed_whole lent v e = rw (e, le-leb 0 lent (omega arith)) refl

-- so it is the same with any number of rows lent
pub handed_any : (lent k : ℕ) (v : Verdict) → v.rows ≡ [] → handed lent v ≡ handed k v
handed_any lent k v e = handed_whole lent v e ∙ sym (handed_whole k v e)

pub perform_any : (m : Command) (lent k : ℕ) (c : Cache) → (verdict m c.desk).rows ≡ [] → perform m lent c ≡ perform m k c
unfolding perform
perform_any m lent k c e = ap (λ (v : Verdict). carried v c) (handed_any lent k (verdict m c.desk) e)

-- and hands out none
pub perform_none : (m : Command) (lent : ℕ) (c : Cache) → (verdict m c.desk).rows ≡ [] → (perform m lent c).rows ≡ []
unfolding perform
perform_none m lent c e = ap (λ (v : Verdict). v.rows) (handed_whole lent (verdict m c.desk) e) ∙ e

-- a verdict that stays does so whatever is lent
pub handed_stays : (lent : ℕ) (v : Verdict) → v.move ≡ stay → (handed lent v).move ≡ stay
handed_stays lent v e = on_lent (λ (w : Verdict). w.move ≡ stay) lent v refl e
