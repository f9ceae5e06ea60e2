-- What is asked for before a call goes on: where it is given, and what is handed on where it is refused.
-- Assumes nothing.
use Rattle.std.proofs.Common.{◌≡◌, ℕ, Bool, true, false, eqb, leb, Result, Ok, Err, sym, refl, ◌∙◌, arith}
use Rattle.std.specs.Result.{IsErrAnd}
use Rattle.std.proofs.lemmas.Result.{err_from_is_err_and}
use borrow.Author.Tests.{eqb-true, eqb-false}
use Rattle.head.specs.declared.Refusal.{Refusal}
use Rattle.head.specs.declared.Refusal.TheVariants.{WrongKind, TooFewRows}
use Rattle.head.specs.Bounds.{plain_kind}
use Rattle.plan.specs.declared.Decision.{Decision}
use Rattle.plan.specs.Plans.{denied}
use Rattle.decide.specs.Settled.{settled, given}
use Rattle.decide.specs.Numbers.{fitted}

given_ok : (b : Bool) (e : Refusal) {u : Unit {0}} → given b e ≡ Ok u → b ≡ true
given_ok true e p = refl
given_ok false e p = grind arith

given_err : (b : Bool) (e : Refusal) {x : Refusal} → given b e ≡ Err x → (b ≡ false) × (x ≡ e)
given_err true e p = grind arith
given_err false e p = (refl, grind arith)

-- the refusal that a `?` hands on
handed_on : (f : Result Decision Refusal) {e x : Refusal} → x ≡ e → IsErrAnd f (λ (y : Refusal). y ≡ x) → settled f ≡ denied e
handed_on f q p = let g = err_from_is_err_and f p in rw (g.1, g.2, q) refl

module _ (kind : ℕ) {r : Result (Unit {0}) Refusal} (q : r ≡ given (eqb kind plain_kind) WrongKind) where
  pub plain_asked : {u : Unit {0}} → r ≡ Ok u → kind ≡ plain_kind
  plain_asked p = eqb-true kind plain_kind (given_ok _ _ (sym q ∙ p))

  pub kind_refused : {x : Refusal} → r ≡ Err x → kind ≡ plain_kind → ⊥
  kind_refused p e = eqb-false kind plain_kind (given_err _ _ (sym q ∙ p)).0 e

  pub kind_handed : (f : Result Decision Refusal) {x : Refusal} → r ≡ Err x → IsErrAnd f (λ (y : Refusal). y ≡ x) → settled f ≡ denied WrongKind
  kind_handed f p = handed_on f (given_err (eqb kind plain_kind) _ (sym q ∙ p)).1

module _ (lent k : ℕ) (d : Decision) {r : Result (Unit {0}) Refusal} (q : r ≡ given (leb k lent) TooFewRows) where
  pub rows_fit : {u : Unit {0}} → r ≡ Ok u → d ≡ fitted lent k d
  rows_fit p = rw (given_ok _ _ (sym q ∙ p)) refl

  pub rows_refused : (f : Result Decision Refusal) {x : Refusal} → r ≡ Err x → IsErrAnd f (λ (y : Refusal). y ≡ x) → settled f ≡ fitted lent k d
  rows_refused f p m = let z = given_err (leb k lent) _ (sym q ∙ p) in rw z.0 (handed_on f z.1 m)
