-- The loop that turns an order into a row of exchanges: what holds at its head.
-- Assumes nothing.
use Prim.Native.Nat.{ℕ, suc, ◌+◌, ◌≤◌, ◌<◌}
use native.Mathlib.Omega.{arith}
use native.Mathlib.Numerals.{add-one}
use mathlib.Core.Path.{◌≡◌, refl, sym, ap, ◌∙◌}
use mathlib.Core.List.{List, [], ◌∷◌, ◌++◌, append-nil}
use lib.ListN.{length, get_or, take, drop, length-append, take-append-drop}
use lib.Seq.{get_or_at, append_snoc, length-take-le}
use Rattle.head.specs.Bounds.{most_slots}
use Rattle.list.specs.Order.{ifeq, place_at}
use Rattle.list.specs.Steps.{put_at}
use Rattle.head.specs.Tails.{Tail}
use Rattle.list.proofs.Marks.{ifeq_same, ifeq_other, ifeq_by}
use Rattle.list.proofs.Stores.{length_put, get_or_put, put_tail, tail_trans}
use Rattle.compact.specs.Plan.{renamed, partners, Fit}
use Rattle.compact.specs.Compact.{Plannable, Planned}
use Rattle.compact.proofs.Renaming.{length_renamed, first_fresh, fit_renamed, place_renamed, put_renamed}

-- `done` is the row so far; `rest` has the slots where the entries of the places from i on stand by then
pub record Planning (n live : ℕ) (pv₀ st₀ pv st : List ℕ) (i : ℕ) : Type 0 where
  pub done : List ℕ
  pub rest : List ℕ
  pub cells : st ≡ done ++ (rest ++ drop live st₀)
  pub size : length done ≡ i
  pub left : i + length rest ≡ live
  pub row : done ++ partners (length rest) i rest ≡ partners live 0 (take live st₀)
  pub fit : Fit i n rest
  pub places : (u : ℕ) → i ≤ u → u < n → get_or pv u 0 ≡ place_at i rest u
  pub tail : Tail n pv₀ pv
  pub long : length st ≡ length st₀

pub planning_first : (n live : ℕ) (pv st : List ℕ) → Plannable n live pv st → Planning n live pv st pv st 0
planning_first n live pv st p =
    let l : length (take live st) ≡ live = length-take-le live st (omega (arith, p.few, p.stacks)) in
    record {
      done = [];
      rest = take live st;
      cells = sym (take-append-drop live st);
      size = refl;
      left = omega arith;
      row = rw l refl;
      fit = p.fit;
      places = λ u h k. p.places u k;
      tail = record { size = refl; tail = refl };
      long = refl;
    }

module _ (n live : ℕ) (st₀ pv₀ pv : List ℕ) (i s : ℕ) (done r : List ℕ) (few : live ≤ n) (small : n ≤ most_slots) (lp : n ≤ length pv)
    (size : length done ≡ i) (left : i + suc (length r) ≡ live) (f : Fit i n (s ∷ r))
    (places : (u : ℕ) → i ≤ u → u < n → get_or pv u 0 ≡ place_at i (s ∷ r) u) where
  cells_step : put_at live (done ++ ((s ∷ r) ++ drop live st₀)) (get_or pv i 0) s ≡ (done ++ s ∷ []) ++ (renamed i s r ++ drop live st₀)
  cells_step =
      rw (places i (omega arith) (omega arith))
      (put_renamed live i s (omega arith) (s ∷ r) done (drop live st₀) i size (f.once i) left
      ∙ rw (keeps) (sym (append_snoc done s (renamed i s r ++ drop live st₀))))
    where
      keeps : ifeq s i s s ≡ s
      keeps = ifeq_by s i s s s (λ e. refl) (λ d. refl)

  places_step : (u : ℕ) → suc i ≤ u → u < n → get_or (put_at n pv s (get_or pv i 0)) u 0 ≡ place_at (suc i) (renamed i s r) u
  places_step u h k =
      get_or_put n pv s (get_or pv i 0) u lp k
      ∙ ifeq_by s u _ _ _
      (λ e. places i (omega arith) (omega arith) ∙ ifeq_other s i _ _ (λ q. omega arith)
      ∙ sym (ifeq_same s u _ _ e) ∙ sym (place_renamed (suc i) i s u (λ q. omega arith) r (first_fresh i n s r f)))
      (λ d. places u (omega arith) k ∙ ifeq_other s u _ _ d
      ∙ sym (ifeq_other s u _ _ d) ∙ sym (place_renamed (suc i) i s u (λ q. omega arith) r (first_fresh i n s r f)))

module _ (n live : ℕ) (pv₀ st₀ pv st pv' st' : List ℕ) (i : ℕ) (p : Plannable n live pv₀ st₀) (lt : i < live)
    (ep : pv' ≡ put_at n pv (get_or st i 0) (get_or pv i 0)) (es : st' ≡ put_at live st (get_or pv i 0) (get_or st i 0)) where
  from : (done rest : List ℕ) → st ≡ done ++ (rest ++ drop live st₀) → length done ≡ i → i + length rest ≡ live
      → done ++ partners (length rest) i rest ≡ partners live 0 (take live st₀) → Fit i n rest
      → ((u : ℕ) → i ≤ u → u < n → get_or pv u 0 ≡ place_at i rest u) → Tail n pv₀ pv → length st ≡ length st₀
      → Planning n live pv₀ st₀ pv' st' (suc i)
  from done [] c z l w f q t g = absurd (omega arith)
  from done (s ∷ r) c z l w f q t g =
      let e : get_or st i 0 ≡ s = rw c (get_or_at done s (r ++ drop live st₀) 0 i z) in
      let lp : n ≤ length pv = omega (arith, p.prevs, t.size) in
      let ep' : pv' ≡ put_at n pv s (get_or pv i 0) = rw e at ep in
      let es' : st' ≡ put_at live st (get_or pv i 0) s = rw e at es in
      record {
        done = done ++ s ∷ [];
        rest = renamed i s r;
        cells = es' ∙ rw c (cells_step n live st₀ pv₀ pv i s done r p.few p.small lp z l f q);
        size = omega (arith, length-append done (s ∷ []));
        left = omega (arith, length_renamed i s r);
        row = rw (length_renamed i s r, append_snoc) w;
        fit = fit_renamed i n s r f;
        places = λ u h k. rw ep' (places_step n live st₀ pv₀ pv i s done r p.few p.small lp z l f q u h k);
        tail = tail_trans t (put_tail n pv s (get_or pv i 0) ep');
        long = ap length es' ∙ length_put live st (get_or pv i 0) s ∙ g;
      }

  pub planning_step : Planning n live pv₀ st₀ pv st i → Planning n live pv₀ st₀ pv' st' (i + 1)
  planning_step w =
      rw (add-one i) (from w.done w.rest w.cells w.size w.left w.row w.fit w.places w.tail w.long)

pub planning_last : (n live : ℕ) (pv₀ st₀ pv st : List ℕ) (i : ℕ) → Plannable n live pv₀ st₀ → Planning n live pv₀ st₀ pv st i → live ≤ i
    → Planned n (take live st₀) pv₀ st₀ pv st
planning_last n live pv₀ st₀ pv st i p w ge = record { cells = whole w.rest w.cells w.left w.row; tail = w.tail }
  where
    len : length (take live st₀) ≡ live
    len = length-take-le live st₀ (omega (arith, p.few, p.stacks))

    whole : (rest : List ℕ) → st ≡ w.done ++ (rest ++ drop live st₀) → i + length rest ≡ live
        → w.done ++ partners (length rest) i rest ≡ partners live 0 (take live st₀)
        → st ≡ partners (length (take live st₀)) 0 (take live st₀) ++ drop (length (take live st₀)) st₀
    whole [] c l e = rw (len, ← e, append-nil) c
    whole (x ∷ r) c l e = absurd (omega arith)
