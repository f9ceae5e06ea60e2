-- Each impostor's outcome contradicts the contract.
-- Assumes nothing.
use Prim.Native.Nat.{ℕ, ◌*◌}
use mathlib.Core.Bool.{true≢false}
use mathlib.Core.List.{[], ◌∷◌}
use mathlib.Core.Path.{◌≡◌, refl, sym, ap, ◌∙◌}
use native.Mathlib.Omega.{arith}
use lib.ListN.{length}
use Rattle.head.specs.declared.Answer.{Answer}
use Rattle.head.specs.declared.Answer.TheVariants.{No, New, Was}
use Rattle.head.specs.declared.Command.{Command}
use Rattle.head.specs.declared.Command.TheVariants.{Put, Retain}
use Rattle.head.specs.Fields.{Fields}
use Rattle.crc.specs.Crc.{shift, shifts, with_byte, with_bytes, crc_of, bytes}
use Rattle.crc.specs.Home.{home_of}
use Rattle.model.specs.Codes.{codes_of, has}
use Rattle.model.specs.Perform.{verdict, perform}
use Rattle.table.specs.Cells.{wrap, ring, stops, past, answer, lookup, sought, count_in}
use Rattle.head.specs.Walks.{walk}
use Rattle.table.specs.Sound.{Gapped}
use Rattle.table.specs.Acts.{filled, all_below, tallied, counts}
use Rattle.table.proofs.Checked.{counts_open}
use Rattle.plan.specs.States.{State}
use Rattle.door.specs.Served.{Calls, shortest}
use Rattle.demands.specs.Views.{codes_in}
use Rattle.demands.specs.Samples.{state₂, state₄, row, code}
use Rattle.demands.specs.Impostors.{RefusesAlways, SaysNew, StoresNothing, EmptiesAll, only_one, RemovesNone, InventsCount}
use Rattle.demands.proofs.Steps.{order_shown}
use Rattle.demands.proofs.Computed.{means_computed}
use Rattle.outcomes.proofs.Decided.{shown}
use Rattle.demands.proofs.Sampled.{sound₂}

module _ (m : Command) (t : State) (rows' : Fields) (a : Answer) (k : Calls m state₂ t (row 0 0) rows' a) where
  -- the contract's answer
  answered : a ≡ (perform m (shortest (row 0 0)) (shown state₂)).answer
  answered = (k.serves.sound (shown state₂) (means_computed state₂ sound₂)).answer

  -- and the codes that it leaves
  codes_left : codes_in t ≡ codes_of (perform m (shortest (row 0 0)) (shown state₂)).left.desk.entries
  codes_left = ap codes_of (order_shown {s = t} (k.serves.sound (shown state₂) (means_computed state₂ sound₂)).left)

put_old : (t : State) (rows' : Fields) (a : Answer) → Calls (Put (code 1) 0 11) state₂ t (row 0 0) rows' a → a ≡ Was 10 0
unfolding perform verdict walk
put_old t rows' a k = answered (Put (code 1) 0 11) t rows' a k

put_new : (t : State) (rows' : Fields) (a : Answer) → Calls (Put (code 3) 0 30) state₂ t (row 0 0) rows' a → codes_in t ≡ 3 ∷ 2 ∷ []
unfolding perform verdict walk
put_new t rows' a k = codes_left (Put (code 3) 0 30) t rows' a k

retained : (t : State) (rows' : Fields) (a : Answer) → Calls (Retain only_one) state₂ t (row 0 0) rows' a → codes_in t ≡ 1 ∷ []
unfolding perform verdict walk
retained t rows' a k = codes_left (Retain only_one) t rows' a k

shown_codes : codes_in state₂ ≡ 2 ∷ 1 ∷ []
unfolding walk
shown_codes = refl

pub refuses_always : RefusesAlways
refuses_always t rows' r k = let e = put_old t rows' (No r) k in let z : ◌≡◌ {A = ℕ} 0 1 = cc in omega arith

pub says_new : SaysNew
says_new t rows' n k = let e = put_old t rows' (New n) k in let z : ◌≡◌ {A = ℕ} 0 1 = cc in omega arith

pub stores_nothing : StoresNothing
stores_nothing t rows' a k e = true≢false (sym (ap (has 3) (put_new t rows' a k)) ∙ e)

pub empties_all : EmptiesAll
empties_all t rows' a k h = let e = ap length (put_new t rows' a k) in omega arith

pub removes_none : RemovesNone
removes_none t rows' a k e =
    let z : ◌≡◌ {A = ℕ} 1 2 = ap length (sym (retained t rows' a k) ∙ e ∙ shown_codes) in
    omega arith

-- `look` may be asked for this search: the table is open
pub asked_for : Gapped (2 * 2) state₄.cells state₄.fields.codes
unfolding filled all_below tallied counts
asked_for = counts_open state₄.head.live (omega arith) (omega arith) refl

three_read : count_in (sought (home_of 2) (2 * 2) state₄.cells state₄.fields.codes 9) ≡ 3
unfolding count_in lookup answer past stops ring wrap home_of crc_of bytes with_bytes with_byte shifts shift
three_read = refl

pub invents_count : InventsCount
invents_count r e n = n (ap count_in e ∙ three_read)
