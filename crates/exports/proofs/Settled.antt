-- The contract of each exported function admits one outcome: one number, one answer's list, one head's list, one set of rows, and lists that differ in the cells at most.
-- And where it refuses because nothing sound, or nothing allowed, was lent, nothing is touched.
-- Assumes nothing.
use Prim.Native.Nat.{ℕ}
use mathlib.Core.Bool.{◌&&◌}
use mathlib.Core.List.{List}
use mathlib.Core.Path.{◌≡◌, refl, sym, ap, ◌∙◌}
use lib.ListN.{length}
use Rattle.head.specs.declared.Answer.{Answer}
use Rattle.head.specs.declared.Command.{Command}
use Rattle.head.specs.declared.Head.{Head}
use Rattle.head.specs.declared.Refusal.TheVariants.{NotOpened}
use Rattle.head.specs.Bounds.{allowed}
use Rattle.head.specs.Fields.{Fields}
use Rattle.head.specs.Fresh.{fresh_head}
use Rattle.model.specs.Desk.{kind_of}
use Rattle.model.specs.Perform.{fresh, opening}
use Rattle.model.proofs.Cases.{split}
use Rattle.plan.specs.States.{State, state, Sound}
use Rattle.opening.specs.Begun.{spacious}
use Rattle.layout.specs.Heads.{head_left}
use Rattle.layout.specs.Numbered.{numbers_of, numbers_left}
use Rattle.outcomes.specs.Agreed.{Agree}
use Rattle.outcomes.proofs.Same.{one_call, one_tell, one_open}
use Rattle.exports.specs.Exchange.{kind_for, opened_number, opened_left, Opening, Reading, Calling}

-- one answer has one number and one list
one_number : {a b : Answer} {r q : ℕ} → a ≡ b → r ≡ (numbers_of a).refusal → q ≡ (numbers_of b).refusal → r ≡ q
one_number e x y = x ∙ ap (λ (z : Answer). (numbers_of z).refusal) e ∙ sym y

one_list : {a b : Answer} (l : List ℕ) {x y : List ℕ} → a ≡ b → x ≡ numbers_left l (numbers_of a) → y ≡ numbers_left l (numbers_of b) → x ≡ y
one_list l e x y = x ∙ ap (λ (z : Answer). numbers_left l (numbers_of z)) e ∙ sym y

-- `weavestall_read`: one number, one answer's list, one set of rows
pub reading_one : {m : Command} {s : State} {rows out out' : Fields} {answer l l' : List ℕ} {r q : ℕ} → Reading m s rows out answer l r
    → Reading m s rows out' answer l' q
    → (r ≡ q) × (l ≡ l') × (out ≡ out')
reading_one {answer = answer} x y =
    let z = one_tell x.tells y.tells in
    (one_number z.0 x.number y.number, one_list answer z.0 x.list y.list, z.1)

-- `weavestall_call`: the same, one head's list, and states that agree
pub calling_one : {m : Command} {s : State} {codes stamps values weights nexts prevs stack cells codes' stamps' values' weights' nexts' prevs' stack' cells' : List ℕ} {rows out out' : Fields} {head h h' answer l l' : List ℕ} {r q : ℕ}
    → (x : Calling m s codes stamps values weights nexts prevs stack cells rows out head h answer l r)
    → (y : Calling m s codes' stamps' values' weights' nexts' prevs' stack' cells' rows out' head h' answer l' q)
    → (r ≡ q) × (l ≡ l') × (out ≡ out') × (h ≡ h') × Agree (state x.left codes stamps values weights nexts prevs stack cells) (state y.left codes' stamps' values' weights' nexts' prevs' stack' cells')
calling_one {head = head} {answer = answer} {r = r} {q} x y =
    let z = one_call x.calls y.calls in
    let n : r ≡ q = one_number z.0 x.number y.number in
    let e : x.left ≡ y.left = sym z.2.alike.head in (
      n,
      one_list answer z.0 x.list y.list,
      z.1,
      x.written ∙ ap (λ (k : ℕ). head_left k head x.left) n ∙ ap (head_left q head) e ∙ sym y.written,
      z.2,
    )

-- the head that opening starts from
abbrev start : ℕ → ℕ → ℕ → List ℕ → Head
start kind c n head = fresh_head (kind_for kind (length head)) c n

module _ {kind c n : ℕ} {head codes stamps values weights nexts prevs stack cells : List ℕ} where
  -- `weavestall_open`: one number, one head's list, and lists that agree
  pub opening_one : {h h' codes' stamps' values' weights' nexts' prevs' stack' cells' codes₂ stamps₂ values₂ weights₂ nexts₂ prevs₂ stack₂ cells₂ : List ℕ} {r q : ℕ}
      → Opening kind c n head h codes stamps values weights nexts prevs stack cells codes' stamps' values' weights' nexts' prevs' stack' cells' r
      → Opening kind c n head h' codes stamps values weights nexts prevs stack cells codes₂ stamps₂ values₂ weights₂ nexts₂ prevs₂ stack₂ cells₂ q
      → (r ≡ q) × (h ≡ h') × Agree (state (start kind c n head) codes' stamps' values' weights' nexts' prevs' stack' cells') (state (start kind c n head) codes₂ stamps₂ values₂ weights₂ nexts₂ prevs₂ stack₂ cells₂)
  opening_one x y =
      let z = one_open refl x.opens y.opens in
      (x.number ∙ ap opened_number z.0 ∙ sym y.number, x.list ∙ ap (opened_left head) z.0 ∙ sym y.list, z.1)

  -- refused, it answers 1 and touches nothing
  pub opening_refused : {h codes' stamps' values' weights' nexts' prevs' stack' cells' : List ℕ} {r : ℕ}
      → Opening kind c n head h codes stamps values weights nexts prevs stack cells codes' stamps' values' weights' nexts' prevs' stack' cells' r
      → (r ≡ 0 → ⊥)
      → (r ≡ 1) × (h ≡ head) × (state (start kind c n head) codes' stamps' values' weights' nexts' prevs' stack' cells' ≡ state (start kind c n head) codes stamps values weights nexts prevs stack cells)
  unfolding opening
  opening_refused {r = r} x z =
      split (allowed (kind_for kind (length head)) c n && spacious n (state (start kind c n head) codes stamps values weights nexts prevs stack cells))
      (λ e. absurd (z (x.number ∙ ap opened_number (x.opens.opens (fresh (kind_of (kind_for kind (length head))) c n) (rw e)).0)))
      (λ e.
      let q = x.opens.refuses NotOpened (rw e) in
      (x.number ∙ ap opened_number q.0, x.list ∙ ap (opened_left head) q.0, q.1))

-- `weavestall_read`, where no cache is described: 2, and the rows untouched
pub reading_unsound : {m : Command} {s : State} {rows out : Fields} {answer l : List ℕ} {r : ℕ} → Reading m s rows out answer l r → (Sound s → ⊥)
    → (r ≡ 2) × (out ≡ rows)
reading_unsound x n = (x.number ∙ ap (λ (a : Answer). (numbers_of a).refusal) (x.tells.unsound n).0, (x.tells.unsound n).1)
