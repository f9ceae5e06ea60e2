-- Taking a slot out without leaving a dead cell: what follows is shifted back into the hole, where it may stand there.
-- While it goes on the hole still holds an old number, so the same cells are empty as before.
-- Assumes nothing.
use mathlib.Core.Path.{◌≡◌, refl, sym, ap, ◌∙◌, subst}
use mathlib.Core.Bool.{Bool, true, false, true≢false}
use mathlib.Core.Logic.{◌≢◌, ◌⊎◌, inl, inr, ⊎_elim}
use mathlib.Core.List.{List}
use Prim.Native.Nat.{ℕ, ◌<◌}
use native.Mathlib.Omega.{arith}
use borrow.Author.Tests.{eq-eqb, eqb-true}
use lib.Dec.{eqb}
use lib.ListN.{length, get_or, take, drop, set, length-set}
use lib.Seq.{get_or-set_same, get_or-set_other, get_or-take, length-take-le, drop-set-lt}
use Rattle.head.specs.Bounds.{none_mark}
use Rattle.table.specs.Cells.{cell_after, past}
use Rattle.table.specs.Sound.{Run, here, over, In, Gapped, Tidy}
use Rattle.table.specs.Acts.{between, TakenOut}
use Rattle.table.proofs.Ring.{eq_or_ne, next_lt, past_lt, past_stop}
use Rattle.table.proofs.Runs.{run_keep, run_stop}
use Rattle.table.proofs.Between.{run_from, run_within, around, far, nearer}

-- ---- an empty cell, by a search from the start

is_none : ℕ → Bool
is_none x = eqb x none_mark

pub gap_of : ℕ → List ℕ → ℕ
gap_of m cells = past is_none (take m cells)

pub gap_there : {m : ℕ} {cells codes : List ℕ} → Gapped m cells codes → (gap_of m cells < m) × (get_or cells (gap_of m cells) 0 ≡ none_mark)
unfolding gap_of is_none
gap_there {m} {cells} o =
    let n = length-take-le m cells o.wide in
    let l : past is_none (take m cells) < length (take m cells) =
    past_lt is_none (take m cells) 0 o.gap (omega (arith, o.gap_in)) (eq-eqb _ none_mark (get_or-take m cells o.gap 0 o.gap_in ∙ o.gap_none)) in
    let k : past is_none (take m cells) < m = omega arith in
    (k, sym (get_or-take m cells (past is_none (take m cells)) 0 k) ∙ eqb-true _ none_mark (past_stop is_none (take m cells) 0 l))

-- ---- the table with the hole made empty

abbrev pub cut : List ℕ → ℕ → List ℕ
cut d hole = set d hole none_mark

module _ (d : List ℕ) (hole : ℕ) (l : hole < length d) where
  cut_hole : get_or (cut d hole) hole 0 ≡ none_mark
  cut_hole = get_or-set_same d hole none_mark 0 l

  cut_else : (p : ℕ) → p ≢ hole → get_or (cut d hole) p 0 ≡ get_or d p 0
  cut_else p n = get_or-set_other d hole p none_mark 0 n

  cut_apart : (p : ℕ) → get_or (cut d hole) p 0 ≢ none_mark → p ≢ hole
  cut_apart p f q = f (ap (λ (i : ℕ). get_or (cut d hole) i 0) q ∙ cut_hole)

  cut_full : (p : ℕ) → get_or (cut d hole) p 0 ≢ none_mark → get_or d p 0 ≢ none_mark
  cut_full p f z = f (cut_else p (cut_apart p f) ∙ z)

  -- a run goes by the hole or does not
  parts : {m j i : ℕ} → Run d m j i → Run (cut d hole) m j i ⊎ (Run d m hole i × Run d m j (cell_after m hole))
  parts (here e) = inl (here e)
  parts {m} {j} (over {i = i} k t) = step (parts t) (eq_or_ne i hole)
    where
      step : Run (cut d hole) m j (cell_after m i) ⊎ (Run d m hole (cell_after m i) × Run d m j (cell_after m hole)) → (i ≡ hole) ⊎ (i ≢ hole)
          → Run (cut d hole) m j i ⊎ (Run d m hole i × Run d m j (cell_after m hole))
      step r (inl q) = inr (here q, subst (λ (x : ℕ). Run d m j (cell_after m x)) q t)
      step (inl r) (inr n) = inl (over (λ z. k (sym (cut_else i n) ∙ z)) r)
      step (inr r) (inr n) = inr (over k r.0, r.1)

-- each cell from i up to j is full, and its slot stands as it must with the hole empty
pub data Settled (home : ℕ → ℕ) (m : ℕ) (codes d : List ℕ) (hole j : ℕ) : ℕ → Type 0 where
  done : {i : ℕ} → i ≡ j → Settled home m codes d hole j i
  more : {i : ℕ} → get_or (cut d hole) i 0 ≢ none_mark → Run (cut d hole) m i (home (get_or codes (get_or d i 0) 0)) → Settled home m codes d hole j (cell_after m i) → Settled home m codes d hole j i

module _ {home : ℕ → ℕ} {m : ℕ} {codes d : List ℕ} {hole : ℕ} where
  run_of : {j i : ℕ} → Settled home m codes d hole j i → Run (cut d hole) m j i
  run_of (done e) = here e
  run_of (more f r s) = over f (run_of s)

  one_more : {j i : ℕ} → Settled home m codes d hole j i → get_or (cut d hole) j 0 ≢ none_mark → Run (cut d hole) m j (home (get_or codes (get_or d j 0) 0)) → Settled home m codes d hole (cell_after m j) i
  one_more {j} (done {i = i} e) f r =
      more (λ z. f (ap (λ (x : ℕ). get_or (cut d hole) x 0) (sym e) ∙ z))
      (subst (λ (x : ℕ). Run (cut d hole) m x (home (get_or codes (get_or d x 0) 0))) (sym e) r) (done (ap (cell_after m) e))
  one_more (more f r s) g t = more f r (one_more s g t)

  -- a full cell that one comes to over full cells, before the empty cell j, is settled
  reached : {p j i : ℕ} → Run d m p i → Settled home m codes d hole j i → get_or d j 0 ≡ none_mark → get_or d p 0 ≢ none_mark → Run (cut d hole) m p (home (get_or codes (get_or d p 0) 0))
  reached (here e) (done q) z n = absurd (n (ap (λ (x : ℕ). get_or d x 0) (sym e ∙ q) ∙ z))
  reached (here e) (more f r s) z n = subst (λ (x : ℕ). Run (cut d hole) m x (home (get_or codes (get_or d x 0) 0))) e r
  reached (over k t) (done q) z n = absurd (k (ap (λ (x : ℕ). get_or d x 0) q ∙ z))
  reached (over k t) (more f r s) z n = reached t s z n

-- ---- the loop's invariant: the slot s is taken out of `cells`; d is the table now, with a hole, and `at` is looked at next

pub record Shifting (home : ℕ → ℕ) (m : ℕ) (codes : List ℕ) (s : ℕ) (cells d : List ℕ) (hole at : ℕ) : Type 0 where
  pub open' : Gapped m cells codes
  pub long : length d ≡ length cells
  pub tail : drop m d ≡ drop m cells
  pub hole_in : hole < m
  pub at_in : at < m
  pub hole_full : get_or d hole 0 ≢ none_mark
  pub full : (p : ℕ) → get_or cells p 0 ≢ none_mark → get_or d p 0 ≢ none_mark
  pub was_full : (p : ℕ) → get_or d p 0 ≢ none_mark → get_or cells p 0 ≢ none_mark
  pub once : (p q : ℕ) → p < m → q < m → p ≢ hole → q ≢ hole → get_or d p 0 ≢ none_mark → get_or d p 0 ≡ get_or d q 0 → p ≡ q
  pub homed : (p : ℕ) → p < m → p ≢ hole → get_or d p 0 ≢ none_mark → Run d m p (home (get_or codes (get_or d p 0) 0))
  pub settled : Settled home m codes d hole at (cell_after m hole)
  pub left : (x : ℕ) → x ≢ none_mark → x ≢ s → In m cells x → (w : In m d x) × (w.cell ≢ hole)
  pub only : (p : ℕ) → p < m → p ≢ hole → get_or d p 0 ≢ none_mark → (get_or d p 0 ≢ s) × In m cells (get_or d p 0)

pub shift_start : {home : ℕ → ℕ} {m : ℕ} {codes cells : List ℕ} {cell : ℕ} → Gapped m cells codes → Tidy home m cells codes → cell < m → get_or cells cell 0 ≢ none_mark
    → {i : ℕ} → i ≡ cell_after m cell → Shifting home m codes (get_or cells cell 0) cells cells cell i
shift_start {m} {cells} {cell} o t l f {i} q =
    record {
      open' = o;
      long = refl;
      tail = refl;
      hole_in = l;
      at_in = subst (λ (x : ℕ). x < m) (sym q) (next_lt m cell l);
      hole_full = f;
      full = λ p n. n;
      was_full = λ p n. n;
      once = λ p q pl ql a b n e. t.once p q pl ql n e;
      homed = λ p pl a n. t.homed p pl n;
      settled = done (sym q);
      left = λ x n e w. (w, λ z. e (sym w.holds ∙ ap (λ (k : ℕ). get_or cells k 0) z));
      only = λ p pl a n. ((λ z. a (t.once p cell pl l n z)), record { cell = p; cell_in = pl; holds = refl });
    }

module _ {home : ℕ → ℕ} {m : ℕ} {codes : List ℕ} {s : ℕ} {cells d : List ℕ} {hole at : ℕ} (v : Shifting home m codes s cells d hole at) (hb : (c : ℕ) → home c < m) where
  in_d : hole < length d
  in_d = omega (arith, v.hole_in, v.long, v.open'.wide)

  run_now : Run d m at (cell_after m hole)
  run_now = run_keep (cut_full d hole in_d) (run_of v.settled)

  -- one does not come round to the hole
  pub apart : at ≢ hole
  apart q =
      let e = gap_of m cells in
      let g = gap_there v.open' in
      let z : get_or d e 0 ≡ none_mark = ⊎_elim (λ a. a) (λ a. absurd (v.was_full e a g.1)) (eq_or_ne (get_or d e 0) none_mark) in
      let r : Run d m hole (cell_after m hole) = subst (λ (x : ℕ). Run d m x (cell_after m hole)) q run_now in
      let k : e ≡ hole = run_stop (run_from r e (next_lt m hole v.hole_in) v.hole_in g.0 (around m hole e v.hole_in g.0)) z in
      v.hole_full (ap (λ (x : ℕ). get_or d x 0) (sym k) ∙ z)

  module _ (f : get_or d at 0 ≢ none_mark) where
    pub has_code : get_or d at 0 < length codes
    has_code =
        let w = (v.only at v.at_in apart f).1 in
        subst (λ (x : ℕ). x < length codes) w.holds (v.open'.slots w.cell w.cell_in (λ z. f (sym w.holds ∙ z)))

    pub shift_less : {i : ℕ} → i ≡ cell_after m at → far m (gap_of m cells) i < far m (gap_of m cells) at
    shift_less {i} q =
        let g = gap_there v.open' in
        subst (λ (x : ℕ). far m (gap_of m cells) x < far m (gap_of m cells) at) (sym q) (nearer m (gap_of m cells) at g.0 v.at_in (λ q. v.was_full at f (ap (λ (x : ℕ). get_or cells x 0) q ∙ g.1)))

    abbrev r : ℕ
    r = home (get_or codes (get_or d at 0) 0)

    cut_at : get_or (cut d hole) at 0 ≢ none_mark
    cut_at z = f (sym (cut_else d hole in_d at apart) ∙ z)

    -- the test that the code makes
    pub test_is : {g k : ℕ} → g ≡ cell_after m hole → k ≡ r → between g k at ≡ between (cell_after m hole) r at
    test_is {g} {k} a b =
        ap (λ (x : ℕ). between x k at) a ∙ ap (λ (x : ℕ). between (cell_after m hole) x at) b

    -- the slot may stay
    pub shift_stay : between (cell_after m hole) r at ≡ true → {i : ℕ} → i ≡ cell_after m at → Shifting home m codes s cells d hole i
    shift_stay b {i} q =
        record {
          open' = v.open';
          long = v.long;
          tail = v.tail;
          hole_in = v.hole_in;
          at_in = subst (λ (x : ℕ). x < m) (sym q) (next_lt m at v.at_in);
          hole_full = v.hole_full;
          full = v.full;
          was_full = v.was_full;
          once = v.once;
          homed = v.homed;
          settled = subst (λ (x : ℕ). Settled home m codes d hole x (cell_after m hole)) (sym q)
              (one_more v.settled cut_at (run_from (run_of v.settled) r (next_lt m hole v.hole_in) v.at_in (hb (get_or codes (get_or d at 0) 0)) b));
          left = v.left;
          only = v.only;
        }

    -- the slot goes into the hole
    abbrev new : List ℕ
    new = set d hole (get_or d at 0)

    new_hole : get_or new hole 0 ≡ get_or d at 0
    new_hole = get_or-set_same d hole (get_or d at 0) 0 in_d

    new_else : (p : ℕ) → p ≢ hole → get_or new p 0 ≡ get_or d p 0
    new_else p n = get_or-set_other d hole p (get_or d at 0) 0 n

    new_full : (p : ℕ) → get_or d p 0 ≢ none_mark → get_or new p 0 ≢ none_mark
    new_full p n =
        ⊎_elim (λ (q : p ≡ hole). λ z. f (sym new_hole ∙ ap (λ (x : ℕ). get_or new x 0) (sym q) ∙ z)) (λ q. λ z. n (sym (new_else p q) ∙ z)) (eq_or_ne p hole)

    old_full : (p : ℕ) → get_or new p 0 ≢ none_mark → get_or d p 0 ≢ none_mark
    old_full p n =
        ⊎_elim (λ (q : p ≡ hole). λ z. v.hole_full (ap (λ (x : ℕ). get_or d x 0) (sym q) ∙ z)) (λ q. λ z. n (new_else p q ∙ z)) (eq_or_ne p hole)

    -- where what stands in a cell now stood before
    record From (p : ℕ) : Type 0 where
      from : ℕ
      from_in : from < m
      from_hole : from ≢ hole
      same : get_or new p 0 ≡ get_or d from 0
      back : (q : ℕ) (t : ℕ) → (get_or new q 0 ≡ get_or d t 0) → from ≡ t → ((q ≡ hole) × (t ≡ at)) ⊎ ((q ≢ hole) × (t ≡ q)) → q ≢ at → p ≡ q
      how : ((p ≡ hole) × (from ≡ at)) ⊎ ((p ≢ hole) × (from ≡ p))

    whence : (p : ℕ) → p < m → p ≢ at → From p
    whence p l n = ⊎_elim yes' no' (eq_or_ne p hole)
      where
        yes' : p ≡ hole → From p
        yes' q =
            record {
              from = at;
              from_in = v.at_in;
              from_hole = apart;
              same = ap (λ (x : ℕ). get_or new x 0) q ∙ new_hole;
              back = λ k t e a h c. ⊎_elim (λ w. q ∙ sym w.0) (λ w. absurd (c (sym w.1 ∙ sym a))) h;
              how = inl (q, refl);
            }

        no' : p ≢ hole → From p
        no' q =
            record {
              from = p;
              from_in = l;
              from_hole = q;
              same = new_else p q;
              back = λ k t e a h c. ⊎_elim (λ w. absurd (n (a ∙ w.1))) (λ w. a ∙ w.1) h;
              how = inr (q, refl);
            }

    pub shift_move : between (cell_after m hole) r at ≡ false → {i : ℕ} → i ≡ cell_after m at → Shifting home m codes s cells new at i
    shift_move b {i} q =
        record {
          open' = v.open';
          long = length-set d hole (get_or d at 0) ∙ v.long;
          tail = drop-set-lt m d hole (get_or d at 0) v.hole_in ∙ v.tail;
          hole_in = v.at_in;
          at_in = subst (λ (x : ℕ). x < m) (sym q) (next_lt m at v.at_in);
          hole_full = new_full at f;
          full = λ p n. new_full p (v.full p n);
          was_full = λ p n. v.was_full p (old_full p n);
          once = once;
          homed = homed;
          settled = done (sym q);
          left = left;
          only = only;
        }
      where
        once : (p q : ℕ) → p < m → q < m → p ≢ at → q ≢ at → get_or new p 0 ≢ none_mark → get_or new p 0 ≡ get_or new q 0 → p ≡ q
        once p q pl ql a c n e =
            let x = whence p pl a in
            let y = whence q ql c in
            x.back q y.from y.same
            (v.once x.from y.from x.from_in y.from_in x.from_hole y.from_hole (λ z. n (x.same ∙ z)) (sym x.same ∙ e ∙ y.same))
            y.how c

        -- the slot's run goes by the hole
        moved : Run d m hole r
        moved =
            ⊎_elim
            (λ (w : Run (cut d hole) m at r). absurd (true≢false (sym (run_within w hole v.hole_in (hb (get_or codes (get_or d at 0) 0)) v.at_in (cut_hole d hole in_d)) ∙ b)))
            (λ w. w.0)
            (parts d hole in_d (v.homed at v.at_in apart f))

        homed : (p : ℕ) → p < m → p ≢ at → get_or new p 0 ≢ none_mark → Run new m p (home (get_or codes (get_or new p 0) 0))
        homed p l a n =
            ⊎_elim
            (λ (e : p ≡ hole). subst (λ (x : ℕ). Run new m x (home (get_or codes (get_or new x 0) 0))) (sym e)
            (subst (λ (x : ℕ). Run new m hole (home (get_or codes x 0))) (sym new_hole) (run_keep new_full moved)))
            (λ e. subst (λ (x : ℕ). Run new m p (home (get_or codes x 0))) (sym (new_else p e)) (run_keep new_full (v.homed p l e (λ z. n (new_else p e ∙ z)))))
            (eq_or_ne p hole)

        left : (x : ℕ) → x ≢ none_mark → x ≢ s → In m cells x → (w : In m new x) × (w.cell ≢ at)
        left x n e w =
            let y = v.left x n e w in
            ⊎_elim
            (λ (a : y.0.cell ≡ at). (record { cell = hole; cell_in = v.hole_in; holds = new_hole ∙ ap (λ (k : ℕ). get_or d k 0) (sym a) ∙ y.0.holds }, λ z. apart (sym z)))
            (λ a. (record { cell = y.0.cell; cell_in = y.0.cell_in; holds = new_else y.0.cell y.1 ∙ y.0.holds }, a))
            (eq_or_ne y.0.cell at)

        only : (p : ℕ) → p < m → p ≢ at → get_or new p 0 ≢ none_mark → (get_or new p 0 ≢ s) × In m cells (get_or new p 0)
        only p l a n =
            let x = whence p l a in
            subst (λ (k : ℕ). (k ≢ s) × In m cells k) (sym x.same) (v.only x.from x.from_in x.from_hole (λ z. n (x.same ∙ z)))

  -- nothing more to shift
  pub shift_end : get_or d at 0 ≡ none_mark → TakenOut home m codes s cells (cut d hole)
  shift_end z =
      record {
        tail = record { size = length-set d hole none_mark ∙ v.long; tail = drop-set-lt m d hole none_mark v.hole_in ∙ v.tail };
        tidy = record {
          wide = omega (arith, length-set d hole none_mark, v.long, v.open'.wide);
          once = λ p k pl kl n e.
              let a = cut_apart d hole in_d p n in
              let c = cut_apart d hole in_d k (λ w. n (e ∙ w)) in
              v.once p k pl kl a c (cut_full d hole in_d p n) (sym (cut_else d hole in_d p a) ∙ e ∙ cut_else d hole in_d k c);
          homed = homed;
        };
        left = λ x n e w.
            let y = v.left x n e w in
            record { cell = y.0.cell; cell_in = y.0.cell_in; holds = cut_else d hole in_d y.0.cell y.1 ∙ y.0.holds };
        only = λ p l n.
            let a = cut_apart d hole in_d p n in
            let y = v.only p l a (cut_full d hole in_d p n) in
            let e = cut_else d hole in_d p a in
            ((λ k. y.0 (sym e ∙ k)), subst (λ (k : ℕ). In m cells k) (sym e) y.1);
      }
    where
      homed : (p : ℕ) → p < m → get_or (cut d hole) p 0 ≢ none_mark → Run (cut d hole) m p (home (get_or codes (get_or (cut d hole) p 0) 0))
      homed p l n =
          let a = cut_apart d hole in_d p n in
          let c = cut_full d hole in_d p n in
          subst (λ (x : ℕ). Run (cut d hole) m p (home (get_or codes x 0))) (sym (cut_else d hole in_d p a))
          (⊎_elim (λ w. w) (λ w. reached w.1 v.settled z c) (parts d hole in_d (v.homed p l a c)))
