-- The sweep's loop: n entries kept so far, the rest still to look at.
-- Assumes nothing.
use Prim.Native.Nat.{ℕ, zero, suc, ◌+◌, ◌-◌, ◌≤◌, ◌<◌}
use mathlib.Core.Bool.{Bool, true, false}
use mathlib.Core.List.{List, [], ◌∷◌}
use mathlib.Core.Path.{◌≡◌, refl, sym, ap, ◌∙◌}
use native.Mathlib.Omega.{arith}
use lib.ListN.{length, get_or, drop}
use Rattle.head.specs.declared.Head.{Head}
use Rattle.head.specs.declared.Rule.{Rule}
use Rattle.head.specs.Bounds.{none_mark}
use Rattle.head.specs.Fields.{Fields}
use Rattle.model.specs.Lists.{only}
use Rattle.model.specs.Desk.{keeps, marks}
use Rattle.model.specs.Moves as moves
use Rattle.model.specs.Perform.{Cache}
use Rattle.model.proofs.Cases.{split}
use Rattle.model.proofs.Counting.{sized, of_without, of_marked, length_marks}
use Rattle.model.proofs.Parts.{drop_without}
use Rattle.list.specs.Order.{head_or}
use Rattle.list.proofs.Walks.{walk_on}
use Rattle.store.specs.State.{entry_in, Describes, Whole}
use Rattle.store.specs.Caches.{after, swept_from}
use Rattle.store.specs.Acts.{Tails, Occupied, Dropped}
use Rattle.store.proofs.Described.{order_length, order_live}
use Rattle.store.proofs.Evicting.{tails_same, tails_trans}
use Rattle.store.proofs.Exchanged.{entry_at}
use Rattle.store.proofs.Shedding.{swept_end, swept_kept, swept_dropped}
use Rattle.store.proofs.Writing.{occupied_in}
use Rattle.state.specs.State.{State, state_of}
use Rattle.sweep.specs.Swept.{Judged, Swept}

-- the slot at a place of the order
only_front : (n : ℕ) (o : List ℕ) → n < length o → only n o ≡ head_or none_mark (drop n o) ∷ []
only_front n [] h = absurd (omega arith)
only_front zero (x ∷ o) h = refl
only_front (suc n) (x ∷ o) h = only_front n o (omega arith)

-- n entries are kept, the next to look at is in `slot`, and `left` are still to look at
pub record Looking (h : Head) (f : Fields) (nx pv st cells : List ℕ) (slot left : ℕ) (q : Rule) (goal : Cache) : Type 0 where
  pub kept : ℕ
  pub cache : Cache
  pub described : Describes h f nx pv st cells cache
  pub here : slot ≡ head_or none_mark (drop kept cache.slots.order)
  pub rest : kept + left ≡ length cache.desk.entries
  pub same : goal ≡ swept_from kept q cache

-- what has been looked at, and that no cell changed while all stayed
pub record Sweeping (h₀ : Head) (f₀ : Fields) (nx₀ pv₀ st₀ cells₀ : List ℕ) (q : Rule) (h : Head) (f : Fields) (nx pv st cells : List ℕ) (slot left : ℕ) : Type 0 where
  pub tails : Tails h₀.slots f₀ nx₀ pv₀ st₀ cells₀ f nx pv st cells
  pub onward : (c : Cache) → Describes h₀ f₀ nx₀ pv₀ st₀ cells₀ c → Looking h f nx pv st cells slot left q (after (moves.sweep q) c)
  pub fewer : h.live ≤ h₀.live
  pub table : h.live ≡ h₀.live → cells ≡ cells₀

pub sweep_start : (h : Head) (f : Fields) (nx pv st cells : List ℕ) (q : Rule) → Sweeping h f nx pv st cells q h f nx pv st cells h.front.0 h.live
sweep_start h f nx pv st cells q = record {
  tails = tails_same f nx pv st cells;
  onward = λ c d. record {
    kept = 0;
    cache = c;
    described = d;
    here = d.links.front;
    rest = omega (arith, order_live d);
    same = refl;
  };
  fewer = omega arith;
  table = λ z. refl;
}

module _ {h₀ : Head} {f₀ : Fields} {nx₀ pv₀ st₀ cells₀ : List ℕ} {q : Rule} {h : Head} {f : Fields} {nx pv st cells : List ℕ} {slot left : ℕ}
    (w : Whole h₀ f₀ nx₀ pv₀ st₀ cells₀) (e : Sweeping h₀ f₀ nx₀ pv₀ st₀ cells₀ q h f nx pv st cells slot left) where
  look : Looking h f nx pv st cells slot left q (after (moves.sweep q) w.cache)
  look = e.onward w.cache w.described

  -- the slot to look at holds an entry
  pub sweep_occupied : 0 < left → Occupied (state_of h f nx pv st cells) slot
  sweep_occupied more =
      let o = look in
      record {
        cache = o.cache;
        described = o.described;
        place = o.kept;
        there = only_front o.kept o.cache.slots.order (omega (arith, o.rest, order_length o.described)) ∙ ap (λ (x : ℕ). x ∷ []) (sym o.here);
      }

  pub sweep_linked : 0 < left → slot < length nx
  sweep_linked more = omega (arith, occupied_in (sweep_occupied more), look.described.links.long.nexts)

  slots_same : h.slots ≡ h₀.slots
  slots_same =
      let o = look in
      o.described.room ∙ sym (ap (λ (z : Cache). z.desk.room) o.same) ∙ sym w.described.room

  -- what comes next, whether the entry stays or goes
  pub sweep_step : (r : Head) (g : Fields) (nx' pv' st' cells' : List ℕ) (keep : Bool) → 0 < left → keep ≡ keeps q (entry_in f slot)
      → Judged (state_of h f nx pv st cells) (state_of r g nx' pv' st' cells') slot keep
      → Sweeping h₀ f₀ nx₀ pv₀ st₀ cells₀ q r g nx' pv' st' cells' (get_or nx slot 0) (left - 1)
  sweep_step r g nx' pv' st' cells' keep more is j = split keep stays goes
    where
      there : (goal : Cache) (o : Looking h f nx pv st cells slot left q goal) → only o.kept o.cache.slots.order ≡ slot ∷ []
      there goal o =
          only_front o.kept o.cache.slots.order (omega (arith, o.rest, order_length o.described))
          ∙ ap (λ (x : ℕ). x ∷ []) (sym o.here)

      ahead : (goal : Cache) (o : Looking h f nx pv st cells slot left q goal) → get_or nx slot 0 ≡ head_or none_mark (drop (suc o.kept) o.cache.slots.order)
      ahead goal o =
          ap (λ (x : ℕ). get_or nx x 0) o.here
          ∙ walk_on o.described.links o.kept (omega (arith, o.rest, order_length o.described))

      stays : keep ≡ true → Sweeping h₀ f₀ nx₀ pv₀ st₀ cells₀ q r g nx' pv' st' cells' (get_or nx slot 0) (left - 1)
      stays t =
          let u = j.kept t in
          rw (
            ap (λ (z : State). z.head) u,
            ap (λ (z : State). z.fields) u,
            ap (λ (z : State). z.nexts) u,
            ap (λ (z : State). z.prevs) u,
            ap (λ (z : State). z.stack) u,
            ap (λ (z : State). z.cells) u,
          )
          (record {
            tails = e.tails;
            onward = λ c d.
                let goal = after (moves.sweep q) c in
                let o = e.onward c d in
                record {
                  kept = suc o.kept;
                  cache = o.cache;
                  described = o.described;
                  here = ahead goal o;
                  rest = omega (arith, o.rest);
                  same =
                      o.same
                      ∙ swept_kept o.kept q o.cache (entry_in f slot) slot (entry_at o.described o.kept slot (there goal o)) (there goal o) (sym is ∙ t);
                };
            fewer = e.fewer;
            table = e.table;
          })

      fewer_live : Dropped (state_of h f nx pv st cells) (state_of r g nx' pv' st' cells') slot → r.live < h.live
      fewer_live p =
          let o = look in
          let at = there (after (moves.sweep q) w.cache) o in
          let d = p.described o.cache o.kept at o.described in
          omega (arith, order_live o.described, order_live d, of_without sized o.kept o.cache.desk.entries, ap length (entry_at o.described o.kept slot at))

      goes : keep ≡ false → Sweeping h₀ f₀ nx₀ pv₀ st₀ cells₀ q r g nx' pv' st' cells' (get_or nx slot 0) (left - 1)
      goes t =
          let p = j.dropped t in
          let gone = fewer_live p in
          record {
            tails = tails_trans e.tails (rw (sym slots_same) p.tails);
            onward = λ c d.
                let goal = after (moves.sweep q) c in
                let o = e.onward c d in
                let at = there goal o in
                let es = entry_at o.described o.kept slot at in
                record {
                  kept = o.kept;
                  cache = after (moves.drop o.kept) o.cache;
                  described = p.described o.cache o.kept at o.described;
                  here = ahead goal o ∙ ap (head_or none_mark) (sym (drop_without o.kept o.cache.slots.order));
                  rest = omega (arith, o.rest, of_without sized o.kept o.cache.desk.entries, ap length es);
                  same = o.same ∙ swept_dropped o.kept q o.cache (entry_in f slot) slot es at (sym is ∙ t);
                };
            fewer = omega (arith, e.fewer);
            table = λ z. absurd (omega (arith, e.fewer));
          }

  pub sweep_end : left ≤ 0 → Swept (state_of h₀ f₀ nx₀ pv₀ st₀ cells₀) (state_of h f nx pv st cells) q
  sweep_end done = record {
    tails = e.tails;
    described = all;
    table = λ c none d.
        let es = c.desk.entries in
        e.table (omega (arith, order_live d, order_live (all c d), of_marked sized (marks q es) es (length_marks q es), ap length none));
  }
    where
      all : (c : Cache) → Describes h₀ f₀ nx₀ pv₀ st₀ cells₀ c → Describes h f nx pv st cells (after (moves.sweep q) c)
      all c d =
          let o = e.onward c d in
          let s : after (moves.sweep q) c ≡ o.cache =
          o.same ∙ swept_end o.kept q o.cache (omega (arith, o.rest)) (omega (arith, o.rest, order_length o.described)) in
          rw s o.described
