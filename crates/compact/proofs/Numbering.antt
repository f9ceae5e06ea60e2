-- The loop that writes the order and its places: what holds at its head.
-- Assumes nothing.
use Prim.Native.Nat.{ℕ, suc, ◌+◌, ◌-◌, ◌≤◌, ◌<◌}
use native.Mathlib.Omega.{arith}
use native.Mathlib.Numerals.{add-one}
use mathlib.Core.Path.{◌≡◌, refl, sym, ap, ◌∙◌}
use mathlib.Core.Logic.{⊎_elim}
use mathlib.Core.List.{List, [], ◌∷◌, ◌++◌, append-nil}
use lib.Dec.{eqb}
use lib.ListN.{length, get_or, set, take, drop, length-append, length-set, length-drop}
use lib.Seq.{take_at, drop_at, drop-cons, set_at, append_snoc, get_or-set_same, get_or-set_other, drop-set-lt}
use Rattle.head.specs.Bounds.{none_mark}
use Rattle.head.specs.Walks.{walk}
use Rattle.head.proofs.Walking.{walk_length}
use Rattle.model.specs.Codes.{one, count}
use Rattle.list.specs.Order.{place_at}
use Rattle.head.specs.Tails.{Tail}
use Rattle.model.proofs.Counting.{count_append}
use Rattle.list.proofs.Marks.{same?, hit}
use Rattle.list.proofs.Stores.{tail_trans}
use Rattle.list.proofs.Chain.{place_at_lem}
use Rattle.list.proofs.Stacking.{place_other}
use Rattle.compact.specs.Plan.{partners, Fit}
use Rattle.compact.specs.Compact.{Walkable, Numbered, Plannable, Planned}

-- `done` is written, and the walk goes on at s
pub record Numbering (n live front : ℕ) (nx pv₀ st₀ pv st : List ℕ) (s k : ℕ) : Type 0 where
  pub done : List ℕ
  pub whole : done ++ walk nx s (live - k) ≡ walk nx front live
  pub size : length done ≡ k
  pub le : k ≤ live
  pub cells : st ≡ done ++ drop k st₀
  pub places : (u : ℕ) → u < n → get_or pv u 0 ≡ place_at 0 done u
  pub tail : Tail n pv₀ pv
  pub long : length st ≡ length st₀

pub numbering_first : (n live front : ℕ) (nx pv st : List ℕ) → ((u : ℕ) → u < n → get_or pv u 0 ≡ none_mark)
    → Numbering n live front nx pv st pv st front 0
numbering_first n live front nx pv st z = record {
  done = [];
  whole = let z : live - 0 ≡ live = omega arith in ap (walk nx front) z;
  size = refl;
  le = omega arith;
  cells = refl;
  places = z;
  tail = record { size = refl; tail = refl };
  long = refl;
}

module _ (n live front : ℕ) (nx pv₀ st₀ pv st : List ℕ) (s k : ℕ) (w : Numbering n live front nx pv₀ st₀ pv st s k)
    (f : Fit 0 n (walk nx front live)) (lt : k < live) where
  whole_at : w.done ++ s ∷ walk nx (get_or nx s 0) (live - suc k) ≡ walk nx front live
  unfolding walk
  whole_at =
      let e : live - k ≡ suc (live - suc k) = omega arith in
      rw e at w.whole

  counts : (x : ℕ) → count x w.done + (one (eqb x s) + count x (walk nx (get_or nx s 0) (live - suc k))) ≡ count x (walk nx front live)
  counts x = sym (count_append x w.done (s ∷ walk nx (get_or nx s 0) (live - suc k))) ∙ ap (count x) whole_at

  pub numbering_slot : s < n
  numbering_slot = f.low s (omega (arith, counts s, hit s s refl))

  new : count s w.done ≡ 0
  new = omega (arith, counts s, hit s s refl, f.once s)

  places_at : n ≤ length pv → (u : ℕ) → u < n → get_or (set pv s k) u 0 ≡ place_at 0 (w.done ++ s ∷ []) u
  places_at l u h =
      ⊎_elim
      (λ e. rw (← e) (get_or-set_same pv s k 0 (omega (arith, numbering_slot)) ∙ omega (arith, w.size, place_at_lem 0 w.done s [] new)))
      (λ d. get_or-set_other pv s u k 0 (λ q. d (sym q)) ∙ w.places u h ∙ sym (place_other 0 w.done s u d))
      (same? s u)

  pub numbering_step : n ≤ length pv₀ → live ≤ length st₀ → Numbering n live front nx pv₀ st₀ (set pv s k) (set st k s) (get_or nx s 0) (k + 1)
  numbering_step lp ls = record {
    done = w.done ++ s ∷ [];
    whole = rw (add-one, append_snoc) whole_at;
    size = omega (arith, w.size, length-append w.done (s ∷ []));
    le = omega arith;
    cells = rw (w.cells, drop-cons st₀ k 0 (omega arith), add-one, append_snoc) (set_at w.done (get_or st₀ k 0) (drop (suc k) st₀) s k w.size);
    places = places_at (omega (arith, w.tail.size));
    tail = tail_trans w.tail (record { size = length-set pv s k; tail = drop-set-lt n pv s k numbering_slot });
    long = length-set st k s ∙ w.long;
  }

pub numbering_last : (n live front : ℕ) (nx pv pv₀ st₀ pv' st' : List ℕ) (s k : ℕ) → Tail n pv pv₀ → Numbering n live front nx pv₀ st₀ pv' st' s k → live ≤ k
    → Numbered n (walk nx front live) pv st₀ pv' st'
unfolding walk
numbering_last n live front nx pv pv₀ st₀ pv' st' s k t w ge =
    let z : live - k ≡ 0 = omega arith in
    let e : w.done ≡ walk nx front live = sym (append-nil w.done) ∙ (rw z at w.whole) in
    record {
      cells = rw (← e, w.size) w.cells;
      places = λ u h. rw (← e) (w.places u h);
      tail = tail_trans t w.tail;
    }

-- ---- what is written, as the order that a plan starts from

module _ (n live front : ℕ) (nx pv st pv' st' : List ℕ) (w : Walkable n live front nx pv st)
    (m : Numbered n (walk nx front live) pv st pv' st') where
  first_cells : take live st' ≡ walk nx front live
  first_cells = ap (take live) m.cells ∙ take_at (walk nx front live) _ live (walk_length nx front live)

  pub numbered_plannable : Plannable n live pv' st'
  numbered_plannable = record {
    small = w.small;
    few = w.few;
    prevs = omega (arith, w.prevs, m.tail.size);
    stacks = omega (arith, w.stacks, w.few, ap length m.cells, walk_length nx front live, length-append (walk nx front live) (drop (length (walk nx front live)) st), length-drop (length (walk nx front live)) st);
    fit = rw first_cells w.fit;
    places = λ u h. rw first_cells (m.places u h);
  }

  pub arranged : (pv'' st'' : List ℕ) → Planned n (take live st') pv' st' pv'' st'' → Planned n (walk nx front live) pv st pv'' st''
  arranged pv'' st'' p = record {
    cells = (rw first_cells at p.cells)
        ∙ ap (λ (l : List ℕ). partners (length (walk nx front live)) 0 (walk nx front live) ++ l)
        (ap (drop (length (walk nx front live))) m.cells ∙ drop_at (walk nx front live) _ _ refl);
    tail = tail_trans m.tail p.tail;
  }
