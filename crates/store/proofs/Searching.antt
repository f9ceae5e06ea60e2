-- A search in the table is a look into the recency list.
-- Assumes nothing.
use Prim.Native.Nat.{ℕ, ◌*◌, ◌<◌}
use mathlib.Core.List.{List, [], ◌∷◌}
use mathlib.Core.Path.{◌≡◌, sym, ap, ◌∙◌}
use native.Mathlib.Omega.{arith}
use Rattle.head.specs.declared.Head.{Head}
use Rattle.head.specs.Fields.{Fields}
use Rattle.crc.specs.Home.{home_of}
use Rattle.crc.proofs.Homes.{home_lt}
use Rattle.model.specs.Lists.{only}
use Rattle.model.specs.Desk.{absent, present, find}
use Rattle.model.specs.Perform.{Cache}
use Rattle.table.specs.declared.Search.TheVariants.{Found, Empty}
use Rattle.table.specs.Cells.{slot_of, sought}
use Rattle.table.specs.Sound.{Gapped}
use Rattle.table.proofs.Answers.{found_answer, empty_answer}
use Rattle.table.proofs.Found.{sound_open}
use Rattle.store.specs.State.{entry_in, Describes}
use Rattle.store.proofs.Gathered.{find_slot, find_none}
use Rattle.model.proofs.Members.{counted_member, member_counted}

-- the entry of a code, its place and its slot
pub record FoundIn (f : Fields) (c : Cache) (code s : ℕ) : Type 0 where
  pub place : ℕ
  pub there : only place c.slots.order ≡ s ∷ []
  pub finds : find code c.desk.entries ≡ present place (entry_in f s)

module _ {h : Head} {f : Fields} {nx pv st cells : List ℕ} {c : Cache} (d : Describes h f nx pv st cells c) where
  homes : (code : ℕ) → home_of h.slots code < 2 * h.slots
  homes = home_lt (omega (arith, d.lawful.room.0, d.room))

  -- a search may be made
  pub search_open : Gapped (2 * h.slots) cells f.codes
  search_open = sound_open d.table

  -- it ends at a slot: that slot holds the entry of the code
  pub search_found : (code s cell count : ℕ) → sought (home_of h.slots) (2 * h.slots) cells f.codes code ≡ Found (slot_of s) cell count → FoundIn f c code s
  search_found code s cell count e =
      let a = found_answer homes d.table e in
      let r = find_slot f c.slots.order code s (member_counted s c.slots.order a.0) a.1
      (λ t k q. d.table.differ t s (counted_member t c.slots.order k) a.0 (q ∙ sym a.1)) in
      record { place = r.place; there = r.there; finds = ap (find code) (sym d.entries) ∙ r.finds }

  -- it ends at an empty cell: the code is absent
  pub search_absent : (code cell count : ℕ) → sought (home_of h.slots) (2 * h.slots) cells f.codes code ≡ Empty cell count → find code c.desk.entries ≡ absent
  search_absent code cell count e =
      ap (find code) (sym d.entries)
      ∙ find_none f c.slots.order code (λ t k q. empty_answer homes d.table e t (counted_member t c.slots.order k) q)
