-- A table is sound exactly if as many cells are filled as slots are live, each with a slot's number, and the search for each live slot's code ends at that slot.
-- Assumes nothing.
use mathlib.Core.Path.{◌≡◌, refl, sym, ap, ◌∙◌, subst}
use mathlib.Core.Bool.{Bool, true, false, ◌&&◌, false≢true}
use mathlib.Core.Logic.{◌≢◌, ◌⊎◌, inl, inr, ⊎_elim}
use mathlib.Core.List.Memᴰ
use mathlib.Core.List.{List, [], ◌∷◌, Memᴰ}
use Prim.Native.Nat.{ℕ, zero, suc, ◌+◌, ◌-◌, ◌*◌, ◌≤◌, ◌<◌, zero-le, suc-le-suc}
use native.Mathlib.Nat.{not-suc-le-zero, le_of_suc-le-suc}
use native.Mathlib.Omega.{arith}
use lib.ListN.{length, get_or, take, set, length-set}
use lib.Seq.{get_or-take, length-take-le, get_or-set_other}
use Rattle.head.specs.declared.Slot.{Slot}
use Rattle.table.specs.declared.Search.TheVariants.{Found}
use Rattle.std.specs.Prelude.{Some}
use Rattle.head.specs.Bounds.{none_mark}
use Rattle.head.specs.Walks.{walk}
use Rattle.table.specs.Cells.{slot_of, lookup}
use Rattle.model.specs.Codes.{Distinct}
use Rattle.model.proofs.Members.{distinct_first, distinct_rest, distinct_more}
use Rattle.table.specs.Sound.{Run, In, Gapped, Sound}
use Rattle.table.specs.Links.{Listed}
use Rattle.table.specs.Acts.{Decides, filled, tallied, counts, standing, all_standing}
use Rattle.table.proofs.Ring.{and_both, eq_or_ne}
use Rattle.table.proofs.Members.{walk_on, walk_end}
use Rattle.table.proofs.Count.{filled_none, filled_some, gap}
use Rattle.table.proofs.Tallies.{tallied_here, tallied_below, counts_all, all_counts}
use Rattle.table.proofs.Answers.{named, names_found}
use Rattle.table.proofs.Found.{found_at, lookup_cases, few, sound_open, empty_absent, live_found}

-- ---- as many as are live

pub member : (x : ℕ) (ys : List ℕ) → Memᴰ x ys ⊎ (Memᴰ x ys → ⊥)
member x [] = inr Memᴰ.not-nil
member x (y ∷ ys) =
    ⊎_elim (λ (e : x ≡ y). inl (Memᴰ.head e))
    (λ n. ⊎_elim (λ h. inl (Memᴰ.tail h)) (λ h. inr (λ k. ⊎_elim n h (Memᴰ.cases_cons k))) (member x ys)) (eq_or_ne x y)

-- one cell made empty
filled_set : (xs : List ℕ) (p : ℕ) → p < length xs → get_or xs p 0 ≢ none_mark → filled xs ≡ suc (filled (set xs p none_mark))
filled_set [] p h n = absurd (not-suc-le-zero h)
filled_set (x ∷ xs) zero h n = filled_some x xs n ∙ ap suc (sym (filled_none none_mark xs refl))
filled_set (x ∷ xs) (suc p) h n =
    ⊎_elim
    (λ (e : x ≡ none_mark). filled_none x xs e ∙ filled_set xs p (le_of_suc-le-suc h) n ∙ ap suc (sym (filled_none x (set xs p none_mark) e)))
    (λ e. filled_some x xs e ∙ ap suc (filled_set xs p (le_of_suc-le-suc h) n ∙ sym (filled_some x (set xs p none_mark) e)))
    (eq_or_ne x none_mark)

-- distinct numbers that all stand in a list are no more than it has
pub enough : (ys xs : List ℕ) → Distinct ys → ((y : ℕ) → Memᴰ y ys → (y ≢ none_mark) × In (length xs) xs y) → length ys ≤ filled xs
enough [] xs d h = zero-le
enough (y ∷ ys) xs d h =
    let w = h y (Memᴰ.head refl) in
    let e = w.1 in
    let f : get_or xs e.cell 0 ≢ none_mark = λ z. w.0 (sym e.holds ∙ z) in
    subst (λ (n : ℕ). suc (length ys) ≤ n) (sym (filled_set xs e.cell e.cell_in f))
    (suc-le-suc (enough ys (set xs e.cell none_mark) (distinct_rest y ys d) (λ z k.
    let v = h z (Memᴰ.tail k) in (
      v.0,
      record {
        cell = v.1.cell;
        cell_in = subst (λ (n : ℕ). v.1.cell < n) (sym (length-set xs e.cell none_mark)) v.1.cell_in;
        holds = get_or-set_other xs e.cell v.1.cell none_mark 0 (λ q. distinct_first y ys d (Memᴰ.cast (sym e.holds ∙ ap (λ (i : ℕ). get_or xs i 0) (sym q) ∙ v.1.holds) k)) ∙ v.1.holds;
      },
    ))))

-- ---- what is checked, and what that says

pub record Checked (home : ℕ → ℕ) (m : ℕ) (cells codes order : List ℕ) : Type 0 where
  pub wide : m ≤ length cells
  pub slots : (p : ℕ) → p < m → get_or cells p 0 ≢ none_mark → get_or cells p 0 < length codes
  pub full : filled (take m cells) ≡ length order
  pub found : (s : ℕ) → Memᴰ s order → (cell : ℕ) × (count : ℕ) × (lookup cells codes m (home (get_or codes s 0)) (get_or codes s 0) ≡ Found (slot_of s) cell count)

pub counted_open : {m : ℕ} {cells codes : List ℕ} → m ≤ length cells → filled (take m cells) < m → ((p : ℕ) → p < m → get_or cells p 0 ≢ none_mark → get_or cells p 0 < length codes) → Gapped m cells codes
counted_open {m} {cells} w r s =
    let n = length-take-le m cells w in
    let g = gap (take m cells) (omega arith) in
    let l : g.0 < m = omega (arith, g.1) in
    record { wide = w; gap = g.0; gap_in = l; gap_none = sym (get_or-take m cells g.0 0 l) ∙ g.2; slots = s }

-- as many full cells as slots are live, and fewer than cells: a search ends
pub counts_open : {m : ℕ} {cells codes : List ℕ} (live : ℕ) → m ≤ length cells → live < m → counts live (tallied (length codes) (take m cells)) ≡ true → Gapped m cells codes
counts_open {m} {cells} {codes} live w r e =
    let b = tallied_below (length codes) m cells w (counts_all live (tallied (length codes) (take m cells)) e) in
    counted_open w (omega (arith, b.0)) b.1

module _ {home : ℕ → ℕ} {m : ℕ} {cells codes order : List ℕ} (room : length order < m) (hb : (c : ℕ) → home c < m) (d : Distinct order)
    (real : (s : ℕ) → Memᴰ s order → (s < length codes) × (s ≢ none_mark)) where
  module _ (k : Checked home m cells codes order) where
    abbrev c : List ℕ
    c = take m cells

    n : length c ≡ m
    n = length-take-le m cells k.wide

    at : (p : ℕ) → p < m → get_or c p 0 ≡ get_or cells p 0
    at p l = get_or-take m cells p 0 l

    op : Gapped m cells codes
    op = counted_open k.wide (omega (arith, k.full, room)) k.slots

    stands : (s : ℕ) → Memᴰ s order → In m cells s
    stands s h =
        let f = found_at cells codes m (home (get_or codes s 0)) (get_or codes s 0) op (hb (get_or codes s 0)) (k.found s h).2 in
        record { cell = (k.found s h).0; cell_in = f.cell_in; holds = f.holds }

    stands_c : (s : ℕ) → Memᴰ s order → (s ≢ none_mark) × In (length c) c s
    stands_c s h =
        let w = stands s h in
        ((real s h).1, record { cell = w.cell; cell_in = omega (arith, w.cell_in, n); holds = at w.cell w.cell_in ∙ w.holds })

    only : (p : ℕ) → p < m → get_or cells p 0 ≢ none_mark → Memᴰ (get_or cells p 0) order
    only p l e =
        ⊎_elim (λ h. h)
        (λ h. absurd (omega (
          arith,
          k.full,
          enough (get_or cells p 0 ∷ order) c (distinct_more (get_or cells p 0) order h d) (λ y g.
              ⊎_elim (λ (q : y ≡ get_or cells p 0). ((λ z. e (sym q ∙ z)), record { cell = p; cell_in = omega (arith, n); holds = at p l ∙ sym q })) (λ g'. stands_c y g') (Memᴰ.cases_cons g)),
        )))
        (member (get_or cells p 0) order)

    once : (p q : ℕ) → p < m → q < m → get_or cells p 0 ≢ none_mark → get_or cells p 0 ≡ get_or cells q 0 → p ≡ q
    once p q pl ql e g =
        ⊎_elim (λ h. h)
        (λ h. absurd (omega (
          arith,
          k.full,
          filled_set c q (omega (arith, n)) (λ z. e (g ∙ sym (at q ql) ∙ z)),
          enough order (set c q none_mark) d (λ y w.
              let v = stands_c y w in (
                v.0,
                ⊎_elim
                    (λ (a : v.1.cell ≡ q). record {
                      cell = p;
                      cell_in = omega (arith, n, length-set c q none_mark);
                      holds = get_or-set_other c q p none_mark 0 h ∙ at p pl ∙ g ∙ sym (at q ql) ∙ ap (λ (i : ℕ). get_or c i 0) (sym a) ∙ v.1.holds;
                    })
                    (λ a. record {
                      cell = v.1.cell;
                      cell_in = omega (arith, v.1.cell_in, length-set c q none_mark);
                      holds = get_or-set_other c q v.1.cell none_mark 0 a ∙ v.1.holds;
                    })
                    (eq_or_ne v.1.cell q),
              )),
        )))
        (eq_or_ne p q)

    pub checked_sound : Sound home m cells codes order
    checked_sound =
        record {
          tidy = record { wide = k.wide; once = once; homed = homed };
          room = room;
          slot = real;
          differ = differ;
          live = stands;
          only = only;
        }
      where
        homed : (p : ℕ) → p < m → get_or cells p 0 ≢ none_mark → Run cells m p (home (get_or codes (get_or cells p 0) 0))
        homed p l e =
            let s = get_or cells p 0 in
            let h = only p l e in
            let f = found_at cells codes m (home (get_or codes s 0)) (get_or codes s 0) op (hb (get_or codes s 0)) (k.found s h).2 in
            subst (λ (i : ℕ). Run cells m i (home (get_or codes s 0))) (sym (once p (k.found s h).0 l f.cell_in e (sym f.holds))) f.run

        differ : (s t : ℕ) → Memᴰ s order → Memᴰ t order → get_or codes s 0 ≡ get_or codes t 0 → s ≡ t
        differ s t a b e =
            let w : Found (slot_of s) (k.found s a).0 (k.found s a).1 ≡ Found (slot_of t) (k.found t b).0 (k.found t b).1
            = sym (k.found s a).2 ∙ ap (λ (x : ℕ). lookup cells codes m (home x) x) e ∙ (k.found t b).2 in
            let l : slot_of s ≡ slot_of t = cc in
            ap (λ (x : Slot). x.0) l

  pub sound_checked : Sound home m cells codes order → Checked home m cells codes order
  sound_checked v =
      record {
        wide = v.tidy.wide;
        slots = (sound_open v).slots;
        full = omega (
          arith,
          few v,
          enough order (take m cells) d (λ y h.
              let w = v.live y h in (
                (real y h).1,
                record {
                  cell = w.cell;
                  cell_in = omega (arith, w.cell_in, length-take-le m cells v.tidy.wide);
                  holds = get_or-take m cells w.cell 0 w.cell_in ∙ w.holds;
                },
              )),
        );
        found = λ s h.
            let x = get_or codes s 0 in
            ⊎_elim
            (λ f. let q = live_found v x (hb x) s h refl f.3 in (f.1, f.2, f.3 ∙ ap (λ (y : ℕ). Found (slot_of y) f.1 f.2) q))
            (λ f. absurd (empty_absent v x (hb x) f.2 s h refl))
            (lookup_cases cells codes m (home x) x (sound_open v) (hb x));
      }

-- ---- the tests decide it

module _ {home : ℕ → ℕ} {m : ℕ} (hb : (c : ℕ) → home c < m) (cells codes : List ℕ) where
  standing_all : Gapped m cells codes → (order : List ℕ) → all_standing home m cells codes order ≡ true → (s : ℕ) → Memᴰ s order
      → (cell : ℕ) × (count : ℕ) × (lookup cells codes m (home (get_or codes s 0)) (get_or codes s 0) ≡ Found (slot_of s) cell count)
  unfolding all_standing
  standing_all o [] e s h = absurd (Memᴰ.not-nil h)
  standing_all o (t ∷ order) e s h =
      let b = and_both (standing home m cells codes t) (all_standing home m cells codes order) e in
      ⊎_elim
      (λ (q : s ≡ t). named cells codes m (home (get_or codes s 0)) (get_or codes s 0) o (hb (get_or codes s 0)) s (ap (standing home m cells codes) q ∙ b.0))
      (standing_all o order b.1 s)
      (Memᴰ.cases_cons h)

  all_standing_lem : (order : List ℕ)
      → ((s : ℕ) → Memᴰ s order → (cell : ℕ) × (count : ℕ) × (lookup cells codes m (home (get_or codes s 0)) (get_or codes s 0) ≡ Found (slot_of s) cell count))
      → all_standing home m cells codes order ≡ true
  unfolding all_standing
  all_standing_lem [] f = refl
  all_standing_lem (t ∷ order) f =
      let a : standing home m cells codes t ≡ true = names_found t (f t (Memᴰ.head refl)).2 in
      let b : all_standing home m cells codes order ≡ true = all_standing_lem order (λ s h. f s (Memᴰ.tail h)) in
      rw (a, b)

module _ {home : ℕ → ℕ} {n : ℕ} {cells codes next order : List ℕ} (hb : (c : ℕ) → home c < 2 * n) (l : Listed n cells codes next order) where
  -- what a sound table passes
  pub sound_tallied : Sound home (2 * n) cells codes order → tallied (length codes) (take (2 * n) cells) ≡ Some (length order)
  sound_tallied d =
      let k = sound_checked l.room hb l.once l.coded d in
      tallied_here (length codes) (2 * n) cells l.wide k.slots ∙ ap (λ (x : ℕ). Some x) k.full

  pub sound_standing : Sound home (2 * n) cells codes order → all_standing home (2 * n) cells codes order ≡ true
  sound_standing d = all_standing_lem hb cells codes order (sound_checked l.room hb l.once l.coded d).found

  module _ (passed : tallied (length codes) (take (2 * n) cells) ≡ Some (length order)) where
    pub tallied_open : Gapped (2 * n) cells codes
    tallied_open =
        let b = tallied_below (length codes) (2 * n) cells l.wide passed in
        counted_open l.wide (omega (arith, b.0, l.room)) b.1

    -- what passes is sound
    pub tested_sound : all_standing home (2 * n) cells codes order ≡ true → Sound home (2 * n) cells codes order
    tested_sound e =
        let b = tallied_below (length codes) (2 * n) cells l.wide passed in
        checked_sound l.room hb l.once l.coded (record {
          wide = l.wide;
          slots = b.1;
          full = sym b.0;
          found = standing_all hb cells codes tallied_open order e;
        })

  -- ---- the answers of `inspect_cells`, where so many slots are live

  module _ {live : ℕ} (many : length order ≡ live) where
    pub sound_counts : Sound home (2 * n) cells codes order → counts live (tallied (length codes) (take (2 * n) cells)) ≡ true
    sound_counts d = all_counts live (tallied (length codes) (take (2 * n) cells)) (sound_tallied d ∙ ap (λ (x : ℕ). Some x) many)

    pub inspect_count : {b : Bool} → b ≡ counts live (tallied (length codes) (take (2 * n) cells)) → b ≡ false → Decides b (Sound home (2 * n) cells codes order)
    inspect_count q e = record { yes = λ z. absurd (false≢true (sym e ∙ z)); no = λ d. q ∙ sound_counts d }

    pub inspect_passed : counts live (tallied (length codes) (take (2 * n) cells)) ≡ true → tallied (length codes) (take (2 * n) cells) ≡ Some (length order)
    inspect_passed e = counts_all live (tallied (length codes) (take (2 * n) cells)) e ∙ ap (λ (x : ℕ). Some x) (sym many)

  pub inspect_rest : {b : Bool} → tallied (length codes) (take (2 * n) cells) ≡ Some (length order) → b ≡ all_standing home (2 * n) cells codes order → Decides b (Sound home (2 * n) cells codes order)
  inspect_rest p e = record { yes = λ z. tested_sound p (sym e ∙ z); no = λ d. e ∙ sound_standing d }

-- ---- the loop of `all_stand`: from slot `slot` on, live - i slots are left

pub record Asking (home : ℕ → ℕ) (m : ℕ) (cells codes next : List ℕ) (whole : Bool) (live slot i : ℕ) : Type 0 where
  pub table : Gapped m cells codes
  pub coded : (s : ℕ) → Memᴰ s (walk next slot (live - i)) → (s < length codes) × (s < length next)
  pub same : whole ≡ all_standing home m cells codes (walk next slot (live - i))

pub ask_start : {home : ℕ → ℕ} {n : ℕ} {cells codes next : List ℕ} (live front : ℕ) → Gapped (2 * n) cells codes → Listed n cells codes next (walk next front live)
    → Asking home (2 * n) cells codes next (all_standing home (2 * n) cells codes (walk next front live)) live front 0
ask_start {home} {n} {cells} {codes} {next} live front o l =
    let z : live - 0 ≡ live = omega arith in
    record {
      table = o;
      coded = λ s h. let k = subst (λ (j : ℕ). Memᴰ s (walk next front j)) z h in ((l.coded s k).0, l.linked s k);
      same = ap (λ (j : ℕ). all_standing home (2 * n) cells codes (walk next front j)) (sym z);
    }

module _ {home : ℕ → ℕ} {m : ℕ} {cells codes next : List ℕ} {whole : Bool} {live slot i : ℕ} (v : Asking home m cells codes next whole live slot i) where
  pub ask_end : live ≤ i → true ≡ whole
  unfolding all_standing
  ask_end h = sym (v.same ∙ ap (all_standing home m cells codes) (walk_end next slot live i h))

  module _ (h : i < live) where
    opened : walk next slot (live - i) ≡ slot ∷ walk next (get_or next slot 0) (live - (i + 1))
    opened = walk_on next slot live i h

    pub ask_coded : (slot < length codes) × (slot < length next)
    ask_coded = v.coded slot (subst (Memᴰ slot) (sym opened) (Memᴰ.head refl))

    split : whole ≡ (standing home m cells codes slot && all_standing home m cells codes (walk next (get_or next slot 0) (live - (i + 1))))
    unfolding all_standing
    split = v.same ∙ ap (all_standing home m cells codes) opened

    pub ask_no : {b : Bool} → b ≡ standing home m cells codes slot → b ≡ false → false ≡ whole
    ask_no q e = let z : standing home m cells codes slot ≡ false = sym q ∙ e in sym (rw z at split)

    pub ask_on : {b : Bool} → b ≡ standing home m cells codes slot → b ≡ true → Asking home m cells codes next whole live (get_or next slot 0) (i + 1)
    ask_on q e =
        let z : standing home m cells codes slot ≡ true = sym q ∙ e in
        record {
          table = v.table;
          coded = λ s k. v.coded s (subst (Memᴰ s) (sym opened) (Memᴰ.tail k));
          same = rw z at split;
        }
