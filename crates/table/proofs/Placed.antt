-- Putting a slot in the empty cell at which the search for its code ended keeps the table sound.
-- Assumes nothing.
use mathlib.Core.Path.{◌≡◌, refl, sym, ap, ◌∙◌, subst}
use mathlib.Core.Logic.{◌≢◌, ⊎_elim}
use mathlib.Core.List.Memᴰ
use mathlib.Core.List.{List, ◌∷◌, Memᴰ}
use Prim.Native.Nat.{ℕ, suc, ◌≤◌, ◌<◌}
use native.Mathlib.Omega.{arith}
use lib.ListN.{length, get_or, set, length-set}
use lib.Seq.{get_or-set_same, get_or-set_other, drop-set-lt}
use Rattle.table.specs.declared.Search.{Search}
use Rattle.head.specs.Bounds.{none_mark}
use Rattle.table.specs.Sound.{Gapped, Run, In, Sound}
use Rattle.head.specs.Tails.{Tail}
use Rattle.table.specs.Acts.{inserted, placed}
use Rattle.table.proofs.Ring.{eq_or_ne}
use Rattle.table.proofs.Runs.{run_keep}
use Rattle.table.proofs.Found.{empty_at, lookup_cases, sound_open, found_at, found_live}

module _ {home : ℕ → ℕ} {m : ℕ} {cells codes order : List ℕ} (d : Sound home m cells codes order)
    (s e : ℕ) (real : (s < length codes) × (s ≢ none_mark)) (fresh : (t : ℕ) → Memᴰ t order → get_or codes t 0 ≢ get_or codes s 0)
    (room : suc (length order) < m) (e-in : e < m) (hole : get_or cells e 0 ≡ none_mark) (run : Run cells m e (home (get_or codes s 0))) where
  abbrev new : List ℕ
  new = set cells e s

  at_e : get_or new e 0 ≡ s
  at_e = get_or-set_same cells e s 0 (omega (arith, d.tidy.wide))

  else : (p : ℕ) → p ≢ e → get_or new p 0 ≡ get_or cells p 0
  else p n = get_or-set_other cells e p s 0 n

  -- what was full is full
  full : (p : ℕ) → get_or cells p 0 ≢ none_mark → get_or new p 0 ≢ none_mark
  full p f = λ z. f (sym (else p (λ q. f (ap (λ (i : ℕ). get_or cells i 0) q ∙ hole))) ∙ z)

  away : Memᴰ s order → ⊥
  away h = fresh s h refl

  pub placed_sound : Sound home m new codes (s ∷ order)
  placed_sound =
      record {
        tidy = record {
          wide = subst (λ (n : ℕ). m ≤ n) (sym (length-set cells e s)) d.tidy.wide;
          once = once;
          homed = homed;
        };
        room = room;
        slot = λ x h. ⊎_elim (λ (q : x ≡ s). subst (λ (y : ℕ). (y < length codes) × (y ≢ none_mark)) (sym q) real) (λ k. d.slot x k) (Memᴰ.cases_cons h);
        differ = differ;
        live = live;
        only = only;
      }
    where
      mem : (p : ℕ) → p < m → p ≢ e → get_or new p 0 ≢ none_mark → Memᴰ (get_or new p 0) order
      mem p l n f = Memᴰ.cast (else p n) (d.only p l (λ z. f (else p n ∙ z)))

      only : (p : ℕ) → p < m → get_or new p 0 ≢ none_mark → Memᴰ (get_or new p 0) (s ∷ order)
      only p l f = ⊎_elim (λ (q : p ≡ e). Memᴰ.head (ap (λ (i : ℕ). get_or new i 0) q ∙ at_e)) (λ n. Memᴰ.tail (mem p l n f)) (eq_or_ne p e)

      once : (p q : ℕ) → p < m → q < m → get_or new p 0 ≢ none_mark → get_or new p 0 ≡ get_or new q 0 → p ≡ q
      once p q pl ql f g =
          ⊎_elim
          (λ (a : p ≡ e). ⊎_elim (λ (b : q ≡ e). a ∙ sym b)
          (λ b. absurd (away (Memᴰ.cast (sym at_e ∙ ap (λ (i : ℕ). get_or new i 0) (sym a) ∙ g) (mem q ql b (λ z. f (g ∙ z)))))) (eq_or_ne q e))
          (λ a. ⊎_elim (λ (b : q ≡ e). absurd (away (Memᴰ.cast (sym at_e ∙ ap (λ (i : ℕ). get_or new i 0) (sym b) ∙ sym g) (mem p pl a f))))
          (λ b. d.tidy.once p q pl ql (λ z. f (else p a ∙ z)) (sym (else p a) ∙ g ∙ else q b)) (eq_or_ne q e))
          (eq_or_ne p e)

      homed : (p : ℕ) → p < m → get_or new p 0 ≢ none_mark → Run new m p (home (get_or codes (get_or new p 0) 0))
      homed p l f =
          ⊎_elim
          (λ (a : p ≡ e). subst (λ (x : ℕ). Run new m p (home (get_or codes x 0))) (sym (ap (λ (i : ℕ). get_or new i 0) a ∙ at_e))
          (subst (λ (x : ℕ). Run new m x (home (get_or codes s 0))) (sym a) (run_keep full run)))
          (λ a. subst (λ (x : ℕ). Run new m p (home (get_or codes x 0))) (sym (else p a)) (run_keep full (d.tidy.homed p l (λ z. f (else p a ∙ z)))))
          (eq_or_ne p e)

      live : (x : ℕ) → Memᴰ x (s ∷ order) → In m new x
      live x h =
          ⊎_elim
          (λ (q : x ≡ s). record { cell = e; cell_in = e-in; holds = at_e ∙ sym q })
          (λ k. let w = d.live x k in
          record {
            cell = w.cell;
            cell_in = w.cell_in;
            holds = else w.cell (λ q. (d.slot x k).1 (sym w.holds ∙ ap (λ (i : ℕ). get_or cells i 0) q ∙ hole)) ∙ w.holds;
          })
          (Memᴰ.cases_cons h)

      differ : (x y : ℕ) → Memᴰ x (s ∷ order) → Memᴰ y (s ∷ order) → get_or codes x 0 ≡ get_or codes y 0 → x ≡ y
      differ x y h k g =
          ⊎_elim
          (λ (a : x ≡ s). ⊎_elim (λ (b : y ≡ s). a ∙ sym b) (λ b. absurd (fresh y b (sym g ∙ ap (λ (i : ℕ). get_or codes i 0) a))) (Memᴰ.cases_cons k))
          (λ a. ⊎_elim (λ (b : y ≡ s). absurd (fresh x a (g ∙ ap (λ (i : ℕ). get_or codes i 0) b))) (λ b. d.differ x y a b g) (Memᴰ.cases_cons k))
          (Memᴰ.cases_cons h)

-- what `insert` leaves is sound, with the slot among the live ones
pub insert_sound : {home : ℕ → ℕ} {m : ℕ} {cells codes order : List ℕ} → ((c : ℕ) → home c < m) → Sound home m cells codes order
    → (s : ℕ) → (s < length codes) × (s ≢ none_mark) → ((t : ℕ) → Memᴰ t order → get_or codes t 0 ≢ get_or codes s 0) → suc (length order) < m
    → Sound home m (inserted home m cells codes s) codes (s ∷ order)
unfolding placed
insert_sound {home} {m} {cells} {codes} {order} hb d s real fresh room =
    let x = get_or codes s 0 in
    ⊎_elim
    (λ f. absurd (fresh f.0 (found_live d x (hb x) f.3) (found_at cells codes m (home x) x (sound_open d) (hb x) f.3).coded))
    (λ f. let e = empty_at cells codes m (home x) x (sound_open d) (hb x) f.2 in
    subst (λ (r : Search). Sound home m (placed r cells s) codes (s ∷ order)) (sym f.2)
    (placed_sound d s f.0 real fresh room e.cell_in e.holds e.run))
    (lookup_cases cells codes m (home x) x (sound_open d) (hb x))

-- what lies past the cells is not touched
pub insert_tail : {home : ℕ → ℕ} {m : ℕ} {cells codes : List ℕ} → ((c : ℕ) → home c < m) → Gapped m cells codes → (s : ℕ) → Tail m cells (inserted home m cells codes s)
unfolding placed
insert_tail {home} {m} {cells} {codes} hb o s =
    let x = get_or codes s 0 in
    ⊎_elim
    (λ f. subst (λ (r : Search). Tail m cells (placed r cells s)) (sym f.3) (record { size = refl; tail = refl }))
    (λ f. let e = empty_at cells codes m (home x) x o (hb x) f.2 in
    subst (λ (r : Search). Tail m cells (placed r cells s)) (sym f.2)
    (record { size = length-set cells f.0 s; tail = drop-set-lt m cells f.0 s e.cell_in }))
    (lookup_cases cells codes m (home x) x o (hb x))
