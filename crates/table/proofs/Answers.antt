-- What a search answers: found exactly where a live slot has the code, the same slot in every table, and how many cells were read.
-- Assumes nothing.
use mathlib.Core.Path.{◌≡◌, refl, sym, ap, ◌∙◌}
use mathlib.Core.Bool.{true, false, true≢false}
use mathlib.Core.Logic.{◌≢◌, ⊎_elim}
use mathlib.Core.List.{List, Memᴰ}
use Prim.Native.Nat.{ℕ, ◌+◌, ◌≤◌, ◌<◌}
use native.Mathlib.Omega.{arith}
use borrow.Author.Tests.{eq-eqb, eqb-true}
use lib.ListN.{length, get_or}
use Rattle.head.specs.Bounds.{none_mark}
use Rattle.table.specs.declared.Search.{Search}
use Rattle.table.specs.declared.Search.TheVariants.{Found, Empty}
use Rattle.table.specs.Cells.{slot_of, wrap, ring, passed, answer, lookup, sought, slot_in, count_in, names}
use Rattle.table.specs.Sound.{Gapped, Sound}
use Rattle.table.specs.Orders.{Same}
use Rattle.table.specs.Acts.{Holding}
use Rattle.table.proofs.Ring.{eq_or_ne}
use Rattle.table.proofs.Seek.{answer_none, answer_some}
use Rattle.table.proofs.Found.{found_at, lookup_cases, sound_open, counted, found_live, empty_absent, live_found}

-- ---- the count

answer_count : (x cell count : ℕ) → count_in (answer x cell count) ≡ count
unfolding count_in
answer_count x cell count = ⊎_elim (λ e. ap count_in (answer_none x cell count e)) (λ e. ap count_in (answer_some x cell count e)) (eq_or_ne x none_mark)

-- the cells that were passed, and the one that ended the search
pub count_is : (cells codes : List ℕ) (m h code : ℕ) → count_in (lookup cells codes m h code) ≡ passed cells codes m h code + 1
unfolding lookup
count_is cells codes m h code = let k = passed cells codes m h code in answer_count (get_or (ring cells m h) k 0) (wrap m (h + k)) (k + 1)

-- ---- which slot

names_true : {r : Search} {x cell count : ℕ} (s : ℕ) → r ≡ Found (slot_of x) cell count → names r s ≡ true → x ≡ s
unfolding names
names_true {x} s e h = eqb-true x s (sym (ap (λ (r : Search). names r s) e) ∙ h)

names_empty : {r : Search} {cell count : ℕ} (s : ℕ) → r ≡ Empty cell count → names r s ≡ false
unfolding names
names_empty s e = ap (λ (r : Search). names r s) e

pub names_found : {r : Search} {cell count : ℕ} (s : ℕ) → r ≡ Found (slot_of s) cell count → names r s ≡ true
unfolding names
names_found s e = ap (λ (r : Search). names r s) e ∙ eq-eqb s s refl

-- in a table in which searches end, an answer that names a slot has found it
pub named : (cells codes : List ℕ) (m h code : ℕ) → Gapped m cells codes → h < m → (s : ℕ) → names (lookup cells codes m h code) s ≡ true
    → (cell : ℕ) × (count : ℕ) × (lookup cells codes m h code ≡ Found (slot_of s) cell count)
named cells codes m h code o hm s t =
    ⊎_elim
    (λ f. (f.1, f.2, f.3 ∙ ap (λ (x : ℕ). Found (slot_of x) f.1 f.2) (names_true s f.3 t)))
    (λ f. absurd (true≢false (sym t ∙ names_empty s f.2)))
    (lookup_cases cells codes m h code o hm)

slot_found : {r : Search} {s cell count : ℕ} → r ≡ Found (slot_of s) cell count → slot_in r ≡ s
unfolding slot_in
slot_found e = ap slot_in e

slot_empty : {r : Search} {cell count : ℕ} → r ≡ Empty cell count → slot_in r ≡ none_mark
unfolding slot_in
slot_empty e = ap slot_in e

module _ {home : ℕ → ℕ} {m : ℕ} {cells codes order : List ℕ} (hb : (c : ℕ) → home c < m) (d : Sound home m cells codes order) where
  -- at most one cell more than slots are live
  pub count_most : (code : ℕ) → count_in (sought home m cells codes code) ≤ length order + 1
  count_most code = omega (arith, count_is cells codes m (home code) code, counted d code (hb code))

  -- a live slot that has the code is found
  pub live_answer : {s : ℕ} → Memᴰ s order → (cell : ℕ) × (count : ℕ) × (sought home m cells codes (get_or codes s 0) ≡ Found (slot_of s) cell count)
  live_answer {s} h =
      let x = get_or codes s 0 in
      ⊎_elim
      (λ f. (f.1, f.2, f.3 ∙ ap (λ (y : ℕ). Found (slot_of y) f.1 f.2) (live_found d x (hb x) s h refl f.3)))
      (λ f. absurd (empty_absent d x (hb x) f.2 s h refl))
      (lookup_cases cells codes m (home x) x (sound_open d) (hb x))

  -- what is found is live and has the code
  pub found_answer : {code s cell count : ℕ} → sought home m cells codes code ≡ Found (slot_of s) cell count → Memᴰ s order × (get_or codes s 0 ≡ code)
  found_answer {code} q = (found_live d code (hb code) q, (found_at cells codes m (home code) code (sound_open d) (hb code) q).coded)

  -- where no live slot has the code, the search ends at an empty cell
  pub absent_answer : {code : ℕ} → ((s : ℕ) → Memᴰ s order → get_or codes s 0 ≢ code) → (cell : ℕ) × (count : ℕ) × (sought home m cells codes code ≡ Empty cell count)
  absent_answer {code} n =
      ⊎_elim
      (λ f. let w = found_answer f.3 in absurd (n f.0 w.0 w.1))
      (λ f. f)
      (lookup_cases cells codes m (home code) code (sound_open d) (hb code))

  -- and only there
  pub empty_answer : {code cell count : ℕ} → sought home m cells codes code ≡ Empty cell count → (s : ℕ) → Memᴰ s order → get_or codes s 0 ≢ code
  empty_answer {code} q = empty_absent d code (hb code) q

  -- ---- on the way to an act

  -- the cell that a search found can be emptied
  pub found_holding : (code : ℕ) {s cell count : ℕ} → sought home m cells codes code ≡ Found (slot_of s) cell count → Holding home m cells codes cell × (get_or cells cell 0 ≡ s)
  found_holding code q =
      let f = found_at cells codes m (home code) code (sound_open d) (hb code) q in
      (record { table = sound_open d; tidy = d.tidy; cell_in = f.cell_in; full = λ z. f.real (sym f.holds ∙ z) }, f.holds)

  -- a live slot's search does not end at an empty cell, and the cell that it finds holds the slot
  pub live_full : {s cell count : ℕ} → Memᴰ s order → sought home m cells codes (get_or codes s 0) ≡ Empty cell count → ⊥
  live_full {s} h q = empty_absent d (get_or codes s 0) (hb (get_or codes s 0)) q s h refl

  pub live_holding : {s x cell count : ℕ} → Memᴰ s order → sought home m cells codes (get_or codes s 0) ≡ Found (slot_of x) cell count → Holding home m cells codes cell × (get_or cells cell 0 ≡ s)
  live_holding {s} h q =
      let x = get_or codes s 0 in
      let f = found_holding x q in
      (f.0, f.1 ∙ live_found d x (hb x) s h refl q)

-- which slot is found does not depend on the cells, on how many there are, on the homes or on the order of the live slots
pub one_answer : {home home' : ℕ → ℕ} {m m' : ℕ} {cells cells' codes order order' : List ℕ} → ((c : ℕ) → home c < m) → ((c : ℕ) → home' c < m')
    → Sound home m cells codes order → Sound home' m' cells' codes order' → Same order order'
    → (code : ℕ) → slot_in (sought home m cells codes code) ≡ slot_in (sought home' m' cells' codes code)
one_answer {home} {home'} {m} {m'} {cells} {cells'} {codes} hb hb' d d' same code =
    ⊎_elim
    (λ f. let w = found_answer hb d f.3 in
    let g = live_answer hb' d' (same.to f.0 w.0) in
    slot_found f.3 ∙ sym (slot_found (sym (ap (sought home' m' cells' codes) w.1) ∙ g.2)))
    (λ f. let g = absent_answer hb' d' (λ s h. empty_answer hb d f.2 s (same.from s h)) in slot_empty f.2 ∙ sym (slot_empty g.2))
    (lookup_cases cells codes m (home code) code (sound_open d) (hb code))
