-- What the stand-ins of the layout come to: a call that is not understood is refusal 8, a head that cannot be read is refusal 2, and the head's
-- list stays as it was then.
-- Assumes nothing.
use Prim.Native.Nat.{ℕ, ◌<◌, ◌≤◌}
use mathlib.Core.List.{List}
use mathlib.Core.Path.{◌≡◌, refl, sym, ap, ◌∙◌}
use native.Mathlib.Omega.{arith}
use borrow.Author.Tests.{le-leb, lt-ltb, le-ltb}
use lib.ListN.{length}
use Rattle.head.specs.declared.Head.{Head}
use Rattle.head.specs.declared.Command.{Command}
use Rattle.head.specs.declared.Answer.TheVariants.{No}
use Rattle.head.specs.declared.Refusal.TheVariants.{NotUnderstood}
use Rattle.head.specs.Fields.{Fields}
use Rattle.model.specs.Desk.{Kind, plain, weighed, kind_number}
use Rattle.model.specs.Perform.{Cache, perform, verdict}
use Rattle.plan.specs.States.{State, Sound, state}
use Rattle.head.specs.declared.Answer.{Answer}
use Rattle.head.specs.Fresh.{fresh_head}
use Rattle.layout.specs.Heads.{head_of, head_left}
use Rattle.layout.specs.Numbered.{numbers_of}
use Rattle.layout.specs.Commands.{not_understood}
use Rattle.exports.specs.Exchange.{Calling}

-- what is not understood is refusal 8 on every cache, and leaves it
pub not_understood_lem : (lent : ℕ) (c : Cache) → (perform not_understood lent c).answer ≡ No NotUnderstood
unfolding perform verdict
not_understood_lem lent c = rw (le-leb 0 lent (omega arith)) refl

pub not_understood_stays : (lent : ℕ) (c : Cache) → (perform not_understood lent c).left ≡ c
unfolding perform verdict
not_understood_stays lent c = rw (le-leb 0 lent (omega arith)) refl

-- a head of no kind describes nothing
no_kind : (k : Kind) → 2 ≡ kind_number k → ⊥
no_kind plain e = omega (arith, e)
no_kind weighed e = omega (arith, e)

module _ (l : List ℕ) (room : ℕ) (codes stamps values weights nexts prevs stack cells : List ℕ) where
  pub short_unsound : length l < 9 → Sound (state (head_of l room) codes stamps values weights nexts prevs stack cells) → ⊥
  unfolding head_of
  short_unsound h w =
      let e : head_of l room ≡ fresh_head 2 0 0 = rw (lt-ltb (length l) 9 h) refl in
      no_kind w.cache.desk.kind (sym (ap (λ (x : Head). x.kind) e) ∙ w.described.kind)

  pub roomless_unsound : 9 ≤ length l → room < 8 → Sound (state (head_of l room) codes stamps values weights nexts prevs stack cells) → ⊥
  unfolding head_of
  roomless_unsound g h w =
      let e : head_of l room ≡ fresh_head 2 0 0 = rw (le-ltb (length l) 9 g, lt-ltb room 8 h) refl in
      no_kind w.cache.desk.kind (sym (ap (λ (x : Head). x.kind) e) ∙ w.described.kind)

-- after refusal 2 the head's list stays
kept : {r : ℕ} (l : List ℕ) (h : Head) → r ≡ 2 → head_left r l h ≡ l
unfolding head_left
kept l h e = ap (λ (k : ℕ). head_left k l h) e

-- where no cache is described: refusal 2, and head, rows and lists untouched
pub calling_unsound : {m : Command} {s : State} {codes stamps values weights nexts prevs stack cells : List ℕ} {rows rows' : Fields} {head head' answer answer' : List ℕ} {r : ℕ}
    → (x : Calling m s codes stamps values weights nexts prevs stack cells rows rows' head head' answer answer' r)
    → (Sound s → ⊥)
    → (r ≡ 2) × (head' ≡ head) × (rows' ≡ rows) × (state x.left codes stamps values weights nexts prevs stack cells ≡ s)
calling_unsound {head = head} {r = r} x n =
    let u = x.calls.serves.unsound n in
    let e : r ≡ 2 = x.number ∙ ap (λ (a : Answer). (numbers_of a).refusal) u.0 in (
      e,
      x.written ∙ kept head x.left e,
      x.calls.unsound n,
      u.1,
    )
