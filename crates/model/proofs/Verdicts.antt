-- What holds of a verdict where it holds in each case of a test, of a find, of the kind, and of the rows lent.
-- Assumes nothing.
use Prim.Native.Nat.{ℕ}
use mathlib.Core.Bool.{Bool, true, false, cond}
use mathlib.Core.Path.{◌≡◌, refl}
use lib.Dec.{leb}
use lib.ListN.{length}
use Rattle.head.specs.declared.Row.{Row}
use Rattle.head.specs.declared.Refusal.TheVariants.{WrongKind, TooFewRows}
use Rattle.model.specs.Desk.{Kind, plain, weighed, Found, absent, present, on_found}
use Rattle.model.specs.Calls.{Verdict, refuse, on_plain}
use Rattle.model.specs.Perform.{handed}

module _ (P : Verdict → Type 0) where
  pub on_test : (t : Bool) {v w : Verdict} → (t ≡ true → P v) → (t ≡ false → P w) → P (cond t v w)
  on_test true f g = f refl
  on_test false f g = g refl

  pub on_found_lem : (f : Found) {v : Verdict} {g : ℕ → Row → Verdict} → (f ≡ absent → P v) → ((i : ℕ) (e : Row) → f ≡ present i e → P (g i e))
      → P (on_found f v g)
  on_found_lem absent h k = h refl
  on_found_lem (present i e) h k = k i e refl

  pub on_plain_lem : (k : Kind) {v : Verdict} → P (refuse WrongKind) → (k ≡ plain → P v) → P (on_plain k v)
  on_plain_lem plain g f = f refl
  on_plain_lem weighed g f = g

  pub on_lent : (lent : ℕ) (v : Verdict) → P (refuse TooFewRows) → P v → P (handed lent v)
  on_lent lent v g h = on_test (leb (length v.rows) lent) (λ t. h) (λ t. g)
