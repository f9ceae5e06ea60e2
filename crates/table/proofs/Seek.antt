-- A search in a table with an empty cell, step by step.
-- Assumes nothing.
use mathlib.Core.Path.{◌≡◌, refl, sym, ap, ◌∙◌, subst}
use mathlib.Core.Bool.{true, false}
use mathlib.Core.Logic.{◌≢◌}
use mathlib.Core.List.{List}
use Prim.Native.Nat.{ℕ, ◌+◌, ◌≤◌, ◌<◌}
use native.Mathlib.Omega.{arith}
use borrow.Author.Tests.{eq-eqb, ne_eqb}
use lib.Dec.{eqb}
use lib.ListN.{get_or}
use Rattle.table.specs.declared.Search.TheVariants.{Found, Empty}
use Rattle.head.specs.Bounds.{none_mark}
use Rattle.table.specs.Cells.{slot_of, wrap, cell_after, ring, stops, passed, answer, lookup}
use Rattle.table.specs.Sound.{Gapped}
use Rattle.table.proofs.Ring.{or_right, wrap_in, wrap_lt, next_wrap, way, ring_length, ring_at, past_lt, ends, goes_on}

pub stops_none : (codes : List ℕ) (code x : ℕ) → x ≡ none_mark → stops codes code x ≡ true
unfolding stops
stops_none codes code x e = rw (eq-eqb x none_mark e)

pub stops_code : (codes : List ℕ) (code x : ℕ) → get_or codes x 0 ≡ code → stops codes code x ≡ true
unfolding stops
stops_code codes code x e = or_right (eqb x none_mark) (eqb (get_or codes x 0) code) (eq-eqb (get_or codes x 0) code e)

pub stops_not : (codes : List ℕ) (code x : ℕ) → x ≢ none_mark → get_or codes x 0 ≢ code → stops codes code x ≡ false
unfolding stops
stops_not codes code x e f = rw (ne_eqb x none_mark e, ne_eqb (get_or codes x 0) code f)

pub answer_none : (x cell count : ℕ) → x ≡ none_mark → answer x cell count ≡ Empty cell count
unfolding answer
answer_none x cell count e = rw (eq-eqb x none_mark e)

pub answer_some : (x cell count : ℕ) → x ≢ none_mark → answer x cell count ≡ Found (slot_of x) cell count
unfolding answer
answer_some x cell count e = rw (ne_eqb x none_mark e)

module _ (cells codes : List ℕ) (m h code : ℕ) (o : Gapped m cells codes) (hm : h < m) where
  -- what stands in the cell that is read after k others
  abbrev pub at : ℕ → ℕ
  at k = get_or cells (wrap m (h + k)) 0

  pub passed_lt : passed cells codes m h code < m
  passed_lt =
      let w = way m h o.gap hm o.gap_in in
      let here : at w.0 ≡ none_mark = ap (λ (i : ℕ). get_or cells i 0) w.2 ∙ o.gap_none in
      subst (λ (x : ℕ). passed cells codes m h code < x) (ring_length cells m o.wide h hm)
      (past_lt (stops codes code) (ring cells m h) 0 w.0 (omega (arith, ring_length cells m o.wide h hm, w.1))
      (stops_none codes code _ (ring_at cells m o.wide h hm w.0 w.1 ∙ here)))

  module _ (k : ℕ) (hk : k ≤ passed cells codes m h code) where
    read : get_or (ring cells m h) k 0 ≡ at k
    read = ring_at cells m o.wide h hm k (omega (arith, passed_lt))

    pub reads_in : wrap m (h + k) < m
    reads_in = wrap_lt m h k hm (omega (arith, passed_lt))

    pub passes : at k ≢ none_mark → get_or codes (at k) 0 ≢ code → k < passed cells codes m h code
    passes e f =
        goes_on (stops codes code) (ring cells m h) 0 k hk (omega (arith, passed_lt, ring_length cells m o.wide h hm))
        (ap (stops codes code) read ∙ stops_not codes code (at k) e f)

    pub lookup_at : stops codes code (at k) ≡ true → lookup cells codes m h code ≡ answer (at k) (wrap m (h + k)) (k + 1)
    unfolding lookup
    lookup_at s =
        ap (λ (p : ℕ). answer (get_or (ring cells m h) p 0) (wrap m (h + p)) (p + 1)) (ends (stops codes code) (ring cells m h) 0 k hk (ap (stops codes code) read ∙ s))
        ∙ ap (λ (x : ℕ). answer x (wrap m (h + k)) (k + 1)) read

    pub lookup_none : at k ≡ none_mark → lookup cells codes m h code ≡ Empty (wrap m (h + k)) (k + 1)
    lookup_none e = lookup_at (stops_none codes code (at k) e) ∙ answer_none (at k) (wrap m (h + k)) (k + 1) e

    pub lookup_some : at k ≢ none_mark → get_or codes (at k) 0 ≡ code → lookup cells codes m h code ≡ Found (slot_of (at k)) (wrap m (h + k)) (k + 1)
    lookup_some n e = lookup_at (stops_code codes code (at k) e) ∙ answer_some (at k) (wrap m (h + k)) (k + 1) n

-- ---- the loop of a search: `before` cells are passed, and `cell` is read as number `count`

pub record Seeking (cells codes : List ℕ) (m h code cell count : ℕ) : Type 0 where
  pub table : Gapped m cells codes
  pub home_in : h < m
  pub before : ℕ
  pub count_is : count ≡ before + 1
  pub cell_is : cell ≡ wrap m (h + before)
  pub so_far : before ≤ passed cells codes m h code

pub seek_start : (cells codes : List ℕ) (m h code : ℕ) → Gapped m cells codes → h < m → Seeking cells codes m h code h 1
seek_start cells codes m h code o hm =
    record { table = o; home_in = hm; before = 0; count_is = refl; cell_is = sym (wrap_in m (h + 0) (omega arith) ∙ omega arith); so_far = omega arith }

module _ {cells codes : List ℕ} {m h code cell count : ℕ} (s : Seeking cells codes m h code cell count) where
  abbrev k : ℕ
  k = s.before

  inside : k < m
  inside = omega (arith, passed_lt cells codes m h code s.table s.home_in, s.so_far)

  pub seek_le : count ≤ m
  seek_le = omega (arith, inside, s.count_is)

  pub seek_in : cell < m
  seek_in = omega (arith, s.cell_is, wrap_lt m h k s.home_in inside)

  here : get_or cells cell 0 ≡ at cells codes m h code s.table s.home_in k
  here = ap (λ (i : ℕ). get_or cells i 0) s.cell_is

  pub seek_none : {g : ℕ} → h ≡ g → get_or cells cell 0 ≡ none_mark → Empty cell count ≡ lookup cells codes m g code
  seek_none {g} q e =
      ap (λ (i : ℕ). Empty i count) s.cell_is
      ∙ ap (λ (n : ℕ). Empty (wrap m (h + k)) n) s.count_is
      ∙ sym (lookup_none cells codes m h code s.table s.home_in k s.so_far (sym here ∙ e))
      ∙ ap (λ (x : ℕ). lookup cells codes m x code) q

  pub seek_some : {g : ℕ} → h ≡ g → get_or cells cell 0 ≢ none_mark → get_or codes (get_or cells cell 0) 0 ≡ code → Found (slot_of (get_or cells cell 0)) cell count ≡ lookup cells codes m g code
  seek_some {g} q n e =
      ap (λ (i : ℕ). Found (slot_of (get_or cells i 0)) i count) s.cell_is
      ∙ ap (λ (n : ℕ). Found (slot_of (get_or cells (wrap m (h + k)) 0)) (wrap m (h + k)) n) s.count_is
      ∙ sym (lookup_some cells codes m h code s.table s.home_in k s.so_far (λ z. n (here ∙ z)) (ap (λ (x : ℕ). get_or codes x 0) (sym here) ∙ e))
      ∙ ap (λ (x : ℕ). lookup cells codes m x code) q

  pub seek_on : {i : ℕ} → i ≡ cell_after m cell → get_or cells cell 0 ≢ none_mark → get_or codes (get_or cells cell 0) 0 ≢ code → Seeking cells codes m h code i (count + 1)
  seek_on {i} q n e =
      record {
        table = s.table;
        home_in = s.home_in;
        before = k + 1;
        count_is = ap (λ (x : ℕ). x + 1) s.count_is;
        cell_is = q ∙ ap (cell_after m) s.cell_is ∙ next_wrap m h k s.home_in inside;
        so_far = omega (arith, passes cells codes m h code s.table s.home_in k s.so_far (λ z. n (here ∙ z)) (λ z. e (ap (λ (x : ℕ). get_or codes x 0) here ∙ z)));
      }
