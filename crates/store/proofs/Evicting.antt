-- The loop that evicts: what has left so far, and what is still to leave.
-- Assumes nothing.
use Prim.Native.Nat.{ℕ, zero, suc, ◌+◌, ◌-◌, ◌≤◌, ◌<◌}
use mathlib.Core.List.{List, [], ◌∷◌, ◌++◌}
use mathlib.Core.Path.{◌≡◌, refl, sym, ap, ◌∙◌, subst}
use native.Mathlib.Omega.{arith}
use lib.ListN.{length, length-append}
use Rattle.head.specs.declared.Head.{Head}
use Rattle.head.specs.Bounds.{none_mark, most_slots}
use Rattle.head.specs.Tails.{Tail}
use Rattle.model.specs.Lists.{only}
use Rattle.model.specs.Moves.{drop}
use Rattle.model.specs.Perform.{Cache}
use Rattle.model.proofs.Backs.{only_back, back_of}
use Rattle.model.proofs.Counting.{sized, of_without}
use Rattle.list.specs.Order.{last_or}
use Rattle.head.specs.Fields.{Fields}
use Rattle.state.specs.State.{state_of}
use Rattle.store.specs.State.{Describes}
use Rattle.store.specs.Caches.{after, shed}
use Rattle.store.specs.Acts.{Tails, Occupied, Dropped, Rich, Shed}
use Rattle.store.proofs.Described.{order_length}
use Rattle.store.proofs.Shedding.{shed_none, shed_more}

tail_trans : {n : ℕ} {a b c : List ℕ} → Tail n a b → Tail n b c → Tail n a c
tail_trans p q = record { size = q.size ∙ p.size; tail = q.tail ∙ p.tail }

pub tails_trans : {n : ℕ} {f g k : Fields} {a b c d a' b' c' d' a₂ b₂ c₂ d₂ : List ℕ} → Tails n f a b c d g a' b' c' d' → Tails n g a' b' c' d' k a₂ b₂ c₂ d₂
    → Tails n f a b c d k a₂ b₂ c₂ d₂
tails_trans p q = record {
  codes = tail_trans p.codes q.codes;
  stamps = tail_trans p.stamps q.stamps;
  values = tail_trans p.values q.values;
  weights = tail_trans p.weights q.weights;
  nexts = tail_trans p.nexts q.nexts;
  prevs = tail_trans p.prevs q.prevs;
  stacks = tail_trans p.stacks q.stacks;
  table = tail_trans p.table q.table;
}

same_tail : {n : ℕ} (a : List ℕ) → Tail n a a
same_tail a = record { size = refl; tail = refl }

pub tails_same : {n : ℕ} (f : Fields) (a b c d : List ℕ) → Tails n f a b c d f a b c d
tails_same f a b c d = record {
  codes = same_tail f.codes;
  stamps = same_tail f.stamps;
  values = same_tail f.values;
  weights = same_tail f.weights;
  nexts = same_tail a;
  prevs = same_tail b;
  stacks = same_tail c;
  table = same_tail d;
}

only_short : {A : Type 0} (i : ℕ) (xs : List A) → length (only i xs) ≤ 1
only_short i [] = omega arith
only_short zero (x ∷ xs) = omega arith
only_short (suc i) (x ∷ xs) = only_short i xs

-- the back of the order is the last slot
last_snoc : (p : ℕ) (xs : List ℕ) (x : ℕ) → last_or p (xs ++ (x ∷ [])) ≡ x
last_snoc p [] x = refl
last_snoc p (y ∷ xs) x = last_snoc y xs x

back_place : (order : List ℕ) → 1 ≤ length order → only (length order - 1) order ≡ last_or none_mark order ∷ []
back_place order h =
    let b = back_of order h in
    subst (λ (l : List ℕ). only (length l - 1) l ≡ last_or none_mark l ∷ []) (sym b.same)
    (let n : length (b.front ++ (b.back ∷ [])) - 1 ≡ length b.front = omega (arith, length-append b.front (b.back ∷ [])) in
    rw (n, last_snoc none_mark b.front b.back) (only_back b.front b.back))

module _ {h : Head} {f : Fields} {nx pv st cells : List ℕ} {c : Cache} (d : Describes h f nx pv st cells c) where
  -- the slot at the back holds the last entry
  pub back_there : 1 ≤ length c.desk.entries → only (length c.desk.entries - 1) c.slots.order ≡ h.back.0 ∷ []
  back_there k =
      rw (d.links.back, ← order_length d) (back_place c.slots.order (omega (arith, order_length d)))

-- no more can leave than there are slots
pub rich_small : {h : Head} {f : Fields} {nx pv st cells : List ℕ} {k : ℕ} → Rich (state_of h f nx pv st cells) k → k ≤ most_slots
rich_small r = omega (arith, r.some, r.described.lawful.roomy, r.described.lawful.room.1)

-- m entries are still to leave from the cache that is described now
pub record Onward (h : Head) (f : Fields) (nx pv st cells : List ℕ) (m : ℕ) (goal : Cache) : Type 0 where
  pub cache : Cache
  pub described : Describes h f nx pv st cells cache
  pub some : m ≤ length cache.desk.entries
  pub same : goal ≡ shed m cache

-- after j turns
pub record Evicting (h₀ : Head) (f₀ : Fields) (nx₀ pv₀ st₀ cells₀ : List ℕ) (k : ℕ) (h : Head) (f : Fields) (nx pv st cells : List ℕ) (j : ℕ) : Type 0 where
  pub most : j ≤ k
  pub tails : Tails h₀.slots f₀ nx₀ pv₀ st₀ cells₀ f nx pv st cells
  pub onward : (c : Cache) → k ≤ length c.desk.entries → Describes h₀ f₀ nx₀ pv₀ st₀ cells₀ c → Onward h f nx pv st cells (k - j) (shed k c)
  pub table : j ≡ 0 → cells ≡ cells₀

pub evict_start : (h : Head) (f : Fields) (nx pv st cells : List ℕ) (k : ℕ) → Evicting h f nx pv st cells k h f nx pv st cells 0
evict_start h f nx pv st cells k = record {
  most = omega arith;
  tails = tails_same f nx pv st cells;
  onward = λ c n d. record { cache = c; described = d; some = omega arith; same = let z : k - 0 ≡ k = omega arith in rw z };
  table = λ z. refl;
}

module _ {h₀ : Head} {f₀ : Fields} {nx₀ pv₀ st₀ cells₀ : List ℕ} {k : ℕ} {h : Head} {f : Fields} {nx pv st cells : List ℕ} {j : ℕ}
    (e : Evicting h₀ f₀ nx₀ pv₀ st₀ cells₀ k h f nx pv st cells j) where
  -- the back of the order is there to remove
  pub evict_occupied : Rich (state_of h₀ f₀ nx₀ pv₀ st₀ cells₀) k → j < k → Occupied (state_of h f nx pv st cells) h.back.0
  evict_occupied r more =
      let o = e.onward r.cache r.some r.described in
      record {
        cache = o.cache;
        described = o.described;
        place = length o.cache.desk.entries - 1;
        there = back_there o.described (omega (arith, o.some));
      }

  pub evict_step : (r : Head) (g : Fields) (nx' pv' st' cells' : List ℕ) → Rich (state_of h₀ f₀ nx₀ pv₀ st₀ cells₀) k → j < k
      → Dropped (state_of h f nx pv st cells) (state_of r g nx' pv' st' cells') h.back.0
      → Evicting h₀ f₀ nx₀ pv₀ st₀ cells₀ k r g nx' pv' st' cells' (j + 1)
  evict_step r g nx' pv' st' cells' start more q = record {
    most = omega arith;
    tails = tails_trans e.tails (rw (sym slots_same) q.tails);
    onward = λ c n d.
        let o = e.onward c n d in
        let m = o.cache in
        let some : 1 ≤ length m.desk.entries = omega (arith, o.some) in
        record {
          cache = after (drop (length m.desk.entries - 1)) m;
          described = q.described m (length m.desk.entries - 1) (back_there o.described some) o.described;
          some = omega (arith, o.some, of_without sized (length m.desk.entries - 1) m.desk.entries, only_short (length m.desk.entries - 1) m.desk.entries);
          same =
              let z : k - j ≡ suc (k - (j + 1)) = omega arith in
              o.same ∙ ap (λ (i : ℕ). shed i m) z ∙ shed_more (k - (j + 1)) m (order_length o.described) some;
        };
    table = λ z. absurd (omega arith);
  }
    where
      slots_same : h.slots ≡ h₀.slots
      slots_same =
          let o = e.onward start.cache start.some start.described in
          o.described.room ∙ sym (ap (λ (z : Cache). z.desk.room) o.same) ∙ sym start.described.room

  pub evict_end : (k ≤ j) → Shed (state_of h₀ f₀ nx₀ pv₀ st₀ cells₀) (state_of h f nx pv st cells) k
  evict_end done = record {
    tails = e.tails;
    described = λ c n d.
        let o = e.onward c n d in
        let z : k - j ≡ 0 = omega arith in
        let s : shed k c ≡ o.cache = o.same ∙ ap (λ (i : ℕ). shed i o.cache) z ∙ shed_none o.cache in
        rw s o.described;
    table = λ z. e.table (omega arith);
  }
