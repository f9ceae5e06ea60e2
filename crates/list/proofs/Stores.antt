-- What a guarded store and a guarded choice leave, and what they do not touch.
-- Assumes nothing.
use Prim.Native.Nat.{ℕ, ◌≤◌, ◌<◌}
use native.Mathlib.Omega.{arith}
use mathlib.Core.Path.{◌≡◌, refl, sym, ◌∙◌, subst}
use mathlib.Core.Logic.{⊎_elim}
use mathlib.Core.List.{List}
use lib.ListN.{length, get_or, drop, length-set}
use lib.Seq.{get_or-set_same, get_or-set_other, drop-set-lt}
use borrow.Author.Tests.{lt-ltb, le-ltb}
use Rattle.head.specs.declared.Head.{Head}
use Rattle.list.specs.Steps.{put_at, choice}
use Rattle.list.specs.Order.{ifeq}
use Rattle.head.specs.Tails.{Tail}
use Rattle.list.specs.Links.{Rest}
use Rattle.list.proofs.Marks.{same?, under?, ifeq_same, ifeq_other}

pub choice_in : (n i a b : ℕ) → i < n → choice n i a b ≡ a
unfolding choice
choice_in n i a b h = rw (lt-ltb i n h) refl

pub choice_out : (n i a b : ℕ) → n ≤ i → choice n i a b ≡ b
unfolding choice
choice_out n i a b h = rw (le-ltb i n h) refl

pub length_put : (n : ℕ) (l : List ℕ) (i v : ℕ) → length (put_at n l i v) ≡ length l
unfolding put_at
length_put n l i v =
    ⊎_elim (λ h. rw (lt-ltb i n h) (length-set l i v)) (λ h. rw (le-ltb i n h) refl) (under? i n)

drop_put : (n : ℕ) (l : List ℕ) (i v : ℕ) → drop n (put_at n l i v) ≡ drop n l
unfolding put_at
drop_put n l i v =
    ⊎_elim (λ h. rw (lt-ltb i n h) (drop-set-lt n l i v h)) (λ h. rw (le-ltb i n h) refl) (under? i n)

-- a read after a store
pub get_or_put : (n : ℕ) (l : List ℕ) (j v i : ℕ) → n ≤ length l → i < n → get_or (put_at n l j v) i 0 ≡ ifeq j i v (get_or l i 0)
unfolding put_at
get_or_put n l j v i hn hi =
    ⊎_elim
    (λ h. rw (lt-ltb j n h) (⊎_elim
    (λ e. rw (← e) (get_or-set_same l j v 0 (omega arith)) ∙ sym (ifeq_same j i v (get_or l i 0) e))
    (λ d. get_or-set_other l j i v 0 (λ e. d (sym e)) ∙ sym (ifeq_other j i v (get_or l i 0) d))
    (same? j i)))
    (λ h. rw (le-ltb j n h) (sym (ifeq_other j i v (get_or l i 0) (λ e. omega arith))))
    (under? j n)

-- a read at another place
pub get_or_put_other : (n : ℕ) (l : List ℕ) (j v i : ℕ) {m : List ℕ} → m ≡ put_at n l j v → n ≤ length l → i < n → (j ≡ i → ⊥) → get_or m i 0 ≡ get_or l i 0
get_or_put_other n l j v i e hn hi d = rw e (get_or_put n l j v i hn hi ∙ ifeq_other j i v (get_or l i 0) d)

pub put_tail : (n : ℕ) (l : List ℕ) (i v : ℕ) {m : List ℕ} → m ≡ put_at n l i v → Tail n l m
put_tail n l i v e = record { size = rw e (length_put n l i v); tail = rw e (drop_put n l i v) }

pub tail_none : (n : ℕ) (l : List ℕ) → Tail n l l
tail_none n l = record { size = refl; tail = refl }

pub tail_trans : {n : ℕ} {l m k : List ℕ} → Tail n l m → Tail n m k → Tail n l k
tail_trans s t = record { size = t.size ∙ s.size; tail = t.tail ∙ s.tail }

-- the same tail, by the slot count of the head between
pub tail_at : {n m : ℕ} {k l : List ℕ} → n ≡ m → Tail n k l → Tail m k l
tail_at {k = k} {l = l} e t = subst (λ (j : ℕ). Tail j k l) e t

pub rest_none : (h : Head) → Rest h h
rest_none h = record { kind = refl; capacity = refl; slots = refl; weight = refl }

pub rest_trans : {h m r : Head} → Rest h m → Rest m r → Rest h r
rest_trans a b = record { kind = b.kind ∙ a.kind; capacity = b.capacity ∙ a.capacity; slots = b.slots ∙ a.slots; weight = b.weight ∙ a.weight }
