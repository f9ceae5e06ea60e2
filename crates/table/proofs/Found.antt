-- What the answer of a search says, in a table with an empty cell and in a sound one.
-- Assumes nothing.
use mathlib.Core.Path.{◌≡◌, sym, ap, ◌∙◌, subst}
use mathlib.Core.Bool.{true, false, true≢false}
use mathlib.Core.Logic.{◌≢◌, ◌⊎◌, inl, inr, ⊎_elim}
use mathlib.Core.List.Memᴰ
use mathlib.Core.List.{List, Memᴰ}
use Prim.Native.Nat.{ℕ, zero, suc, ◌+◌, ◌≤◌, ◌<◌}
use native.Mathlib.Omega.{arith}
use lib.ListN.{length, get_or, take}
use lib.Seq.{length-take-le, get_or-take}
use Rattle.head.specs.declared.Slot.{Slot}
use Rattle.table.specs.declared.Search.TheVariants.{Found, Empty}
use Rattle.head.specs.Bounds.{none_mark}
use Rattle.table.specs.Cells.{slot_of, wrap, ring, stops, passed, answer, lookup}
use Rattle.table.specs.Sound.{Run, here, Gapped, Sound}
use Rattle.table.specs.Acts.{filled}
use Rattle.table.proofs.Ring.{eq_or_ne, wrap_zero, next_wrap, ring_length, ring_at, past_stop, past_before}
use Rattle.table.proofs.Seek.{at, stops_none, stops_code, stops_not, passed_lt, reads_in, lookup_at, answer_none, answer_some}
use Rattle.table.proofs.Count.{pigeons, filled_ring, past_filled, gap}
use Rattle.table.proofs.Runs.{run_more, run_tail, run_stop}

pub record FoundAt (cells codes : List ℕ) (m h code s cell count : ℕ) : Type 0 where
  pub cell_in : cell < m
  pub holds : get_or cells cell 0 ≡ s
  pub real : s ≢ none_mark
  pub coded : get_or codes s 0 ≡ code
  pub run : Run cells m cell h
  pub count_is : count ≡ passed cells codes m h code + 1

pub record EmptyAt (cells codes : List ℕ) (m h code cell count : ℕ) : Type 0 where
  pub cell_in : cell < m
  pub holds : get_or cells cell 0 ≡ none_mark
  pub run : Run cells m cell h
  pub count_is : count ≡ passed cells codes m h code + 1
  pub away : (p : ℕ) → Run cells m p h → get_or codes (get_or cells p 0) 0 ≡ code → cell ≡ p

module _ (cells codes : List ℕ) (m h code : ℕ) (o : Gapped m cells codes) (hm : h < m) where
  P : ℕ
  P = passed cells codes m h code

  last : ℕ
  last = at cells codes m h code o hm P

  short : P < m
  unfolding P
  short = passed_lt cells codes m h code o hm

  -- what is passed is not empty and has another code
  goes : (k : ℕ) → k < P → stops codes code (at cells codes m h code o hm k) ≡ false
  unfolding P
  goes k l =
      ap (stops codes code) (sym (ring_at cells m o.wide h hm k (omega (arith, passed_lt cells codes m h code o hm))))
      ∙ past_before (stops codes code) (ring cells m h) 0 k l

  stopped : stops codes code last ≡ true
  unfolding P last
  stopped =
      ap (stops codes code) (sym (ring_at cells m o.wide h hm P (passed_lt cells codes m h code o hm)))
      ∙ past_stop (stops codes code) (ring cells m h) 0 (omega (arith, passed_lt cells codes m h code o hm, ring_length cells m o.wide h hm))

  ended : lookup cells codes m h code ≡ answer last (wrap m (h + P)) (P + 1)
  unfolding P last
  ended = lookup_at cells codes m h code o hm P (omega arith) stopped

  -- the cells that are passed are a run
  runs : (k : ℕ) → k ≤ P → Run cells m (wrap m (h + k)) h
  runs zero l = here (sym (wrap_zero m h hm))
  runs (suc k) l =
      subst (λ (j : ℕ). Run cells m j h) (next_wrap m h k hm (omega (arith, short)) ∙ ap (λ (x : ℕ). wrap m (h + x)) (omega arith))
      (run_more (runs k (omega arith)) (λ e. true≢false (sym (stops_none codes code _ e) ∙ goes k l)))

  -- a run from home to a cell with the code has not been left behind
  ahead : (p : ℕ) → Run cells m p h → get_or codes (get_or cells p 0) 0 ≡ code → (k : ℕ) → k ≤ P → Run cells m p (wrap m (h + k))
  ahead p r e zero l = subst (λ (i : ℕ). Run cells m p i) (sym (wrap_zero m h hm)) r
  ahead p r e (suc k) l =
      subst (λ (i : ℕ). Run cells m p i) (next_wrap m h k hm (omega (arith, short)) ∙ ap (λ (x : ℕ). wrap m (h + x)) (omega arith))
      (run_tail (ahead p r e k (omega arith)) (λ q. true≢false (sym (stops_code codes code _ (ap (λ (i : ℕ). get_or codes (get_or cells i 0) 0) q ∙ e)) ∙ goes k l)))

  -- there is an answer
  pub lookup_cases : ((s : ℕ) × (cell : ℕ) × (count : ℕ) × (lookup cells codes m h code ≡ Found (slot_of s) cell count)) ⊎ ((cell : ℕ) × (count : ℕ) × (lookup cells codes m h code ≡ Empty cell count))
  lookup_cases =
      ⊎_elim (λ e. inr (wrap m (h + P), P + 1, ended ∙ answer_none last (wrap m (h + P)) (P + 1) e))
      (λ n. inl (last, wrap m (h + P), P + 1, ended ∙ answer_some last (wrap m (h + P)) (P + 1) n)) (eq_or_ne last none_mark)

  pub empty_at : {cell count : ℕ} → lookup cells codes m h code ≡ Empty cell count → EmptyAt cells codes m h code cell count
  unfolding P last
  empty_at {cell} {count} q = ⊎_elim yes' no' (eq_or_ne last none_mark)
    where
      yes' : last ≡ none_mark → EmptyAt cells codes m h code cell count
      yes' e =
          let w : Empty (wrap m (h + P)) (P + 1) ≡ Empty cell count = sym (answer_none last (wrap m (h + P)) (P + 1) e) ∙ sym ended ∙ q in
          let c : wrap m (h + P) ≡ cell = cc in
          let n : P + 1 ≡ count = cc in
          record {
            cell_in = subst (λ (i : ℕ). i < m) c (reads_in cells codes m h code o hm P (omega arith));
            holds = ap (λ (i : ℕ). get_or cells i 0) (sym c) ∙ e;
            run = subst (λ (i : ℕ). Run cells m i h) c (runs P (omega arith));
            count_is = sym n;
            away = λ p r f. sym c ∙ run_stop (ahead p r f P (omega arith)) e;
          }

      no' : last ≢ none_mark → EmptyAt cells codes m h code cell count
      no' n =
          let w : Found (slot_of last) (wrap m (h + P)) (P + 1) ≡ Empty cell count = sym (answer_some last (wrap m (h + P)) (P + 1) n) ∙ sym ended ∙ q in
          let z : ◌≡◌ {A = ℕ} 0 1 = cc in
          absurd (omega arith)

  pub found_at : {s cell count : ℕ} → lookup cells codes m h code ≡ Found (slot_of s) cell count → FoundAt cells codes m h code s cell count
  unfolding P last
  found_at {s} {cell} {count} q = ⊎_elim no' yes' (eq_or_ne last none_mark)
    where
      yes' : last ≢ none_mark → FoundAt cells codes m h code s cell count
      yes' n =
          let w : Found (slot_of last) (wrap m (h + P)) (P + 1) ≡ Found (slot_of s) cell count = sym (answer_some last (wrap m (h + P)) (P + 1) n) ∙ sym ended ∙ q in
          let l' : slot_of last ≡ slot_of s = cc in
          let l : last ≡ s = ap (λ (x : Slot). x.0) l' in
          let c : wrap m (h + P) ≡ cell = cc in
          let k : P + 1 ≡ count = cc in
          record {
            cell_in = subst (λ (i : ℕ). i < m) c (reads_in cells codes m h code o hm P (omega arith));
            holds = ap (λ (i : ℕ). get_or cells i 0) (sym c) ∙ l;
            real = λ z. n (l ∙ z);
            coded = ⊎_elim (λ e. e) (λ e. absurd (true≢false (sym stopped ∙ stops_not codes code last n (λ z. e (ap (λ (x : ℕ). get_or codes x 0) (sym l) ∙ z))))) (eq_or_ne (get_or codes s 0) code);
            run = subst (λ (i : ℕ). Run cells m i h) c (runs P (omega arith));
            count_is = sym k;
          }

      no' : last ≡ none_mark → FoundAt cells codes m h code s cell count
      no' e =
          let w : Empty (wrap m (h + P)) (P + 1) ≡ Found (slot_of s) cell count = sym (answer_none last (wrap m (h + P)) (P + 1) e) ∙ sym ended ∙ q in
          let z : ◌≡◌ {A = ℕ} 0 1 = cc in
          absurd (omega arith)

-- ---- in a sound table

module _ {home : ℕ → ℕ} {m : ℕ} {cells codes order : List ℕ} (d : Sound home m cells codes order) where
  -- no more cells are filled than slots are live
  pub few : filled (take m cells) ≤ length order
  few =
      let n = length-take-le m cells d.tidy.wide in
      let t : (p : ℕ) → p < m → get_or (take m cells) p 0 ≡ get_or cells p 0 = λ p l. get_or-take m cells p 0 l in
      pigeons (take m cells) order
      (λ p l e. let l' : p < m = omega arith in Memᴰ.cast (t p l') (d.only p l' (λ z. e (t p l' ∙ z))))
      (λ p q l k e f. let l' : p < m = omega arith in let k' : q < m = omega arith in d.tidy.once p q l' k' (λ z. e (t p l' ∙ z)) (sym (t p l') ∙ f ∙ t q k'))

  pub sound_open : Gapped m cells codes
  sound_open =
      let n = length-take-le m cells d.tidy.wide in
      let g = gap (take m cells) (omega (arith, few, d.room)) in
      let l : g.0 < m = omega (arith, g.1) in
      record {
        wide = d.tidy.wide;
        gap = g.0;
        gap_in = l;
        gap_none = sym (get_or-take m cells g.0 0 l) ∙ g.2;
        slots = λ p l e. (d.slot (get_or cells p 0) (d.only p l e)).0;
      }

  module _ (code : ℕ) (hm : home code < m) where
    -- a search reads at most one cell more than slots are live
    pub counted : passed cells codes m (home code) code ≤ length order
    counted = omega (arith, few, filled_ring cells m (home code), past_filled (stops codes code) (stops_none codes code) (ring cells m (home code)))

    pub found_live : {s cell count : ℕ} → lookup cells codes m (home code) code ≡ Found (slot_of s) cell count → Memᴰ s order
    found_live q =
        let f = found_at cells codes m (home code) code sound_open hm q in
        Memᴰ.cast (sym f.holds) (d.only _ f.cell_in (λ z. f.real (sym f.holds ∙ z)))

    pub empty_absent : {cell count : ℕ} → lookup cells codes m (home code) code ≡ Empty cell count → (s : ℕ) → Memᴰ s order → get_or codes s 0 ≢ code
    empty_absent q s live e =
        let g = empty_at cells codes m (home code) code sound_open hm q in
        let w = d.live s live in
        let k : get_or codes (get_or cells w.cell 0) 0 ≡ code = ap (λ (x : ℕ). get_or codes x 0) w.holds ∙ e in
        let f : get_or cells w.cell 0 ≢ none_mark = λ z. (d.slot s live).1 (sym w.holds ∙ z) in
        let r : Run cells m w.cell (home code) = subst (λ (x : ℕ). Run cells m w.cell (home x)) k (d.tidy.homed w.cell w.cell_in f) in
        let a : _ ≡ w.cell = g.away w.cell r k in
        (d.slot s live).1 (sym w.holds ∙ ap (λ (i : ℕ). get_or cells i 0) (sym a) ∙ g.holds)

    -- a live slot's code is found, in that slot
    pub live_found : {s cell count : ℕ} → (t : ℕ) → Memᴰ t order → get_or codes t 0 ≡ code → lookup cells codes m (home code) code ≡ Found (slot_of s) cell count → s ≡ t
    live_found {s} t live e q = d.differ s t (found_live q) live ((found_at cells codes m (home code) code sound_open hm q).coded ∙ sym e)
