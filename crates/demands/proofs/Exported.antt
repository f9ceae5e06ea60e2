-- A run of the exported functions from an accepted opening on is a day, of which the demands hold.
-- Assumes nothing.
use Rattle.std.specs.Prelude.{Ok}
use Prim.Native.Nat.{ℕ, ◌≤◌}
use mathlib.Core.Bool.{Bool, true, false, ◌&&◌}
use mathlib.Core.List.{List, [], ◌∷◌}
use mathlib.Core.Path.{◌≡◌, refl, sym, ap, ◌∙◌, subst}
use native.Mathlib.Omega.{arith}
use lib.ListN.{length}
use borrow.Author.Tests.{le-ltb}
use Rattle.head.specs.declared.Head.{Head}
use Rattle.head.specs.declared.Answer.{Answer}
use Rattle.head.specs.declared.Answer.TheVariants.{No, New, Was, Is, Now, Absent, Entry, Done, Count, Flag}
use Rattle.head.specs.declared.Command.{Command}
use Rattle.head.specs.declared.Refusal.{Refusal}
use Rattle.head.specs.declared.Refusal.TheVariants.{NotOpened, Unsound, WrongKind, TooHeavy, NoSlot, TooFewRows, OverCeiling, NotUnderstood}
use Rattle.head.specs.Bounds.{allowed}
use Rattle.head.specs.Forms.{form_of}
use Rattle.head.specs.Fresh.{fresh_head}
use Rattle.head.specs.Refusals.{number_of}
use Rattle.model.specs.Desk.{kind_of}
use Rattle.model.specs.Perform.{fresh, opening}
use Rattle.model.proofs.Cases.{split}
use Rattle.model.proofs.Refusing.{never_2}
use Rattle.plan.specs.States.{State, state, Sound}
use Rattle.door.specs.Served.{Calls, Tells, is_teller, shortest}
use Rattle.opening.specs.Begun.{spacious, Opens}
use Rattle.layout.specs.Heads.{head_in, head_of, head_left}
use Rattle.layout.specs.Commands.{command_in}
use Rattle.layout.specs.Numbered.{numbers_of}
use Rattle.exports.specs.Exchange.{Opening, kind_for, opened_number, opened_left}
use Rattle.exports.proofs.Again.{read_again, left_long}
use Rattle.demands.specs.Runs.{Run, Day}
use Rattle.demands.specs.Exported.{Lists, under, found, Sent, Kept, ExportRun, made_by, made_in}
use Rattle.demands.proofs.Openings.{opened_fresh}
use Rattle.demands.proofs.Forms.{call_contract, tell_contract}

-- ---- heads

-- a head's list that is long enough is read, where an answer has room
head_read : (l : List ℕ) (room : ℕ) → 9 ≤ length l → 8 ≤ room → head_of l room ≡ head_in l
unfolding head_of
head_read l room n m = rw (le-ltb (length l) 9 n, le-ltb room 8 m) refl

-- what was written of a sound state's head is the head
head_again : (s : State) → Sound s → (l k : List ℕ) (r : ℕ) → (r ≡ 2 → ⊥) → 9 ≤ length l → k ≡ head_left r l s.head → head_in k ≡ s.head
head_again s w l k r q n e =
    let m : 9 ≤ length k = subst (λ (x : ℕ). 9 ≤ x) (sym (ap length e ∙ left_long r l s.head)) n in
    sym (head_read k 8 m (omega arith)) ∙ ap (λ (x : List ℕ). head_of x 8) e ∙ read_again s w l r 8 q n (omega arith)

-- ---- numbers

-- refusal 2 alone has number 2
second : (r : Refusal) → number_of r ≡ 2 → r ≡ Unsound
second NotOpened e = absurd (omega (arith, e))
second Unsound e = refl
second WrongKind e = absurd (omega (arith, e))
second TooHeavy e = absurd (omega (arith, e))
second NoSlot e = absurd (omega (arith, e))
second TooFewRows e = absurd (omega (arith, e))
second OverCeiling e = absurd (omega (arith, e))
second NotUnderstood e = absurd (omega (arith, e))

two_unsound : (a : Answer) → (numbers_of a).refusal ≡ 2 → a ≡ No Unsound
two_unsound (No r) e = ap No (second r e)
two_unsound (New n) e = absurd (omega (arith, e))
two_unsound (Was v n) e = absurd (omega (arith, e))
two_unsound (Is v) e = absurd (omega (arith, e))
two_unsound (Now v b n) e = absurd (omega (arith, e))
two_unsound Absent e = absurd (omega (arith, e))
two_unsound (Entry r) e = absurd (omega (arith, e))
two_unsound (Done n) e = absurd (omega (arith, e))
two_unsound (Count n) e = absurd (omega (arith, e))
two_unsound (Flag b) e = absurd (omega (arith, e))

-- ---- one call

module _ (w : Lists) (long : 9 ≤ length w.head) (sound : Sound (found w)) (x : Sent) (room : 8 ≤ length x.answer) where
  abbrev asked : Command
  asked = command_in x.command

  module _ (k : Kept false w x) where
    -- the state that the call left
    abbrev after : State
    after = under k.left x.left

    -- `weavestall_call` makes `door::call` on the state that the lists hold
    called : Calls asked (found w) after x.lent x.rows k.said
    called =
        subst (λ (h : Head). Calls asked (under h w) after x.lent x.rows k.said)
        (head_read w.head (length x.answer) long room) k.calls

    after_sound : Sound after
    after_sound = record { cache = _; described = (called.serves.sound sound.cache sound.described).left }

    -- it is not refused with 2
    not_two : x.number ≡ 2 → ⊥
    not_two e =
        never_2 asked (shortest x.lent) sound.cache
        (sym (called.serves.sound sound.cache sound.described).answer ∙ two_unsound k.said (sym k.number ∙ e))

    -- and the next call finds what it left
    found_after : found x.left ≡ after
    found_after = ap (λ (h : Head). under h x.left) (head_again after after_sound w.head x.left.head x.number not_two long k.written)

    long_after : 9 ≤ length x.left.head
    long_after = subst (λ (n : ℕ). 9 ≤ n) (sym (ap length k.written ∙ left_long x.number w.head k.left)) long

  -- `weavestall_read` makes `door::tell`
  told : (k : Kept true w x) → Tells asked (found w) x.lent x.rows k.0.said
  told k =
      subst (λ (h : Head). Tells asked (under h w) x.lent x.rows k.0.said) (head_read w.head (length x.answer) long room) k.0.tells

-- ---- runs

-- the calls of a run of the exported functions are a run of the calls by name
pub export_run : (w : Lists) → 9 ≤ length w.head → Sound (found w) → (xs : List Sent) (r : ExportRun w xs) → Run (found w) (made_in w xs r)
export_run w long sound [] r = tt
export_run w long sound (x ∷ xs) r = by x.reads r.1 (λ l s. export_run x.left l s xs r.2)
  where
    by : (b : Bool) (k : Kept b w x) → (9 ≤ length x.left.head → Sound (found x.left) → Run (found x.left) (made_in x.left xs r.2))
        → Run (found w) (made_by b w x k (made_in x.left xs r.2))
    by true k more =
        let on : Run (found w) (made_in x.left xs r.2) =
        subst (λ (v : Lists). Run (found v) (made_in x.left xs r.2)) k.1
        (more (subst (λ (v : Lists). 9 ≤ length v.head) (sym k.1) long) (subst (λ (v : Lists). Sound (found v)) (sym k.1) sound)) in
        split (is_teller (form_of (command_in x.command)))
        (λ t. rw t (tell_contract (told w long sound x r.0 k) t, on))
        (λ t. rw t on)
    by false k more =
        let e = found_after w long sound x r.0 k in (
          call_contract (called w long sound x r.0 k),
          subst (λ (s : State). Run s (made_in x.left xs r.2)) e
              (more (long_after w long sound x r.0 k) (subst Sound (sym e) (after_sound w long sound x r.0 k))),
        )

-- ---- from opening on

module _ {kind c n : ℕ} {head head' codes stamps values weights nexts prevs stack cells codes' stamps' values' weights' nexts' prevs' stack' cells' : List ℕ} {r : ℕ}
    (x : Opening kind c n head head' codes stamps values weights nexts prevs stack cells codes' stamps' values' weights' nexts' prevs' stack' cells' r)
    (long : 9 ≤ length head) (none : r ≡ 0) where
  -- the lists that opening was lent, and those that it left
  abbrev given : State
  given = state (fresh_head kind c n) codes stamps values weights nexts prevs stack cells

  abbrev begun : State
  begun = state (fresh_head kind c n) codes' stamps' values' weights' nexts' prevs' stack' cells'

  abbrev pub opened_lists : Lists
  opened_lists = record { head = head'; fields = begun.fields; nexts = nexts'; prevs = prevs'; stack = stack'; cells = cells' }

  opens : Opens kind c n given begun x.said
  opens =
      let same : kind_for kind (length head) ≡ kind = rw (le-ltb (length head) 9 long) refl in
      subst (λ (k : ℕ). Opens k c n (state (fresh_head k c n) codes stamps values weights nexts prevs stack cells) (state (fresh_head k c n) codes' stamps' values' weights' nexts' prevs' stack' cells') x.said)
      same x.opens

  gave : x.said ≡ Ok (fresh_head kind c n)
  unfolding opening
  gave =
      split (allowed kind c n && spacious n given)
      (λ e. (opens.opens (fresh (kind_of kind) c n) (rw e)).0)
      (λ e. absurd (omega (arith, sym none ∙ x.number ∙ ap opened_number (opens.refuses NotOpened (rw e)).0)))

  begun_sound : Sound begun
  begun_sound = record { cache = _; described = (opened_fresh kind c n given begun x.said opens gave).means }

  written : head' ≡ head_left 0 head (fresh_head kind c n)
  written = x.list ∙ ap (opened_left head) gave

  found_begun : found opened_lists ≡ begun
  found_begun = ap (λ (h : Head). under h opened_lists) (head_again begun begun_sound head head' 0 (λ e. omega (arith, e)) long written)

  long_begun : 9 ≤ length head'
  long_begun = subst (λ (k : ℕ). 9 ≤ k) (sym (ap length written ∙ left_long 0 head (fresh_head kind c n))) long

  -- calls of the exported functions, from an accepted opening on, are a day
  pub export_day : (xs : List Sent) → ExportRun opened_lists xs → Day kind c n
  export_day xs k = record {
    lists = given;
    numbers = refl;
    begun = begun;
    said = x.said;
    opens = opens;
    gave = gave;
    calls = made_in opened_lists xs k;
    run = subst (λ (s : State). Run s (made_in opened_lists xs k)) found_begun
        (export_run opened_lists long_begun (subst Sound (sym found_begun) begun_sound) xs k);
  }
