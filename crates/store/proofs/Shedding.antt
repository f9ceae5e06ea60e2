-- Leaving one after another: from the back, and by a rule from the front on.
-- Assumes nothing.
use Prim.Native.Nat.{ℕ, suc, ◌-◌, ◌≤◌}
use mathlib.Core.Bool.{true, false}
use mathlib.Core.List.{List, [], ◌∷◌, ◌++◌, append_assoc, append-nil}
use mathlib.Core.Path.{◌≡◌, refl, ap, ◌∙◌}
use native.Mathlib.Omega.{arith}
use lib.ListN.{length, take, drop, drop_of_length-le}
use lib.Seq.{take_all}
use Rattle.head.specs.declared.Row.{Row}
use Rattle.head.specs.declared.Rule.{Rule}
use Rattle.model.specs.Lists.{without, only, but_last, oldest}
use Rattle.model.specs.Desk.{keeps}
use Rattle.model.specs.Moves as moves
use Rattle.model.specs.Moves.{sweep}
use Rattle.model.specs.Perform.{Cache}
use Rattle.model.proofs.Backs.{but_last_none, oldest_none, but_last_more, oldest_more}
use Rattle.model.proofs.Parts.{take_place, drop_place, take_without, drop_without}
use Rattle.store.specs.Caches.{after, shed, swept_from}

-- none leave
pub shed_none : (c : Cache) → shed 0 c ≡ c
shed_none c = rw (but_last_none c.desk.entries, but_last_none c.slots.order, oldest_none c.slots.order, append-nil c.slots.free)

-- the back leaves, then k more
pub shed_more : (k : ℕ) (c : Cache) → length c.slots.order ≡ length c.desk.entries → 1 ≤ length c.desk.entries
    → shed (suc k) c ≡ shed k (after (moves.drop (length c.desk.entries - 1)) c)
shed_more k c same some =
    let n : ℕ = length c.desk.entries - 1 in
    let m : length c.slots.order - 1 ≡ n = omega arith in
    let more : 1 ≤ length c.slots.order = omega arith in
    let a : but_last (suc k) c.slots.order ≡ but_last k (without n c.slots.order) = rw (← m) (but_last_more k c.slots.order more) in
    let b : oldest (suc k) c.slots.order ≡ only n c.slots.order ++ oldest k (without n c.slots.order) = rw (← m) (oldest_more k c.slots.order more) in
    rw (but_last_more k c.desk.entries some, a, b, append_assoc c.slots.free (only n c.slots.order) (oldest k (without n c.slots.order)))

-- ---- by a rule

pub swept_start : (q : Rule) (c : Cache) → after (sweep q) c ≡ swept_from 0 q c
swept_start q c = refl

-- nothing is left to look at
pub swept_end : (n : ℕ) (q : Rule) (c : Cache) → length c.desk.entries ≤ n → length c.slots.order ≤ n → swept_from n q c ≡ c
swept_end n q c h k =
    rw (
      drop_of_length-le c.desk.entries h,
      take_all n c.desk.entries h,
      take_all n c.slots.order k,
      append-nil c.desk.entries,
      append-nil c.slots.order,
      append-nil c.slots.free,
    )

module _ (n : ℕ) (q : Rule) (c : Cache) (e : Row) (s : ℕ) (at : only n c.desk.entries ≡ e ∷ []) (in-slot : only n c.slots.order ≡ s ∷ []) where
  entries_here : drop n c.desk.entries ≡ e ∷ drop (suc n) c.desk.entries
  entries_here = drop_place n c.desk.entries ∙ ap (λ (l : List Row). l ++ drop (suc n) c.desk.entries) at

  order_here : drop n c.slots.order ≡ s ∷ drop (suc n) c.slots.order
  order_here = drop_place n c.slots.order ∙ ap (λ (l : List ℕ). l ++ drop (suc n) c.slots.order) in-slot

  -- the entry at place n is kept
  pub swept_kept : keeps q e ≡ true → swept_from n q c ≡ swept_from (suc n) q c
  swept_kept k =
      rw (
        entries_here,
        order_here,
        k,
        take_place n c.desk.entries,
        at,
        take_place n c.slots.order,
        in-slot,
        append_assoc (take n c.desk.entries) (e ∷ []),
        append_assoc (take n c.slots.order) (s ∷ []),
      )

  -- it leaves
  pub swept_dropped : keeps q e ≡ false → swept_from n q c ≡ swept_from n q (after (moves.drop n) c)
  swept_dropped k =
      rw (
        entries_here,
        order_here,
        k,
        take_without n c.desk.entries,
        drop_without n c.desk.entries,
        take_without n c.slots.order,
        drop_without n c.slots.order,
        in-slot,
        append_assoc c.slots.free (s ∷ []),
      )
