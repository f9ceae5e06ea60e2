-- A sound table stays sound: when a slot is taken out, when other slots' codes change, and at the start.
-- Assumes nothing.
use mathlib.Core.Path.{◌≡◌, sym, ◌∙◌, subst}
use mathlib.Core.List.Memᴰ
use mathlib.Core.List.{List, [], ◌∷◌, ◌++◌, Memᴰ}
use Prim.Native.Nat.{ℕ, ◌≤◌, ◌<◌}
use native.Mathlib.Omega.{arith}
use lib.ListN.{length, get_or, drop, replicate, length-append, length-replicate, length-drop, get_or-replicate, get_or-append}
use lib.Seq.{drop_at}
use Rattle.head.specs.Bounds.{none_mark}
use Rattle.table.specs.Sound.{Run, Sound}
use Rattle.table.specs.Orders.{Same, Without, omit}
use Rattle.head.specs.Tails.{Tail}
use Rattle.table.specs.Acts.{TakenOut, cleared}
use Rattle.table.proofs.Members.{place_without, front_same, front_short}

-- slot s is taken out: the table describes any list of the others
pub removed_sound : {home : ℕ → ℕ} {m s : ℕ} {codes cells cells' order order' : List ℕ}
    → Sound home m cells codes order → TakenOut home m codes s cells cells' → Without s order order' → Sound home m cells' codes order'
removed_sound d r w =
    record {
      tidy = r.tidy;
      room = omega (arith, d.room, w.short);
      slot = λ s h. d.slot s (w.other s h).0;
      differ = λ s t h k. d.differ s t (w.other s h).0 (w.other t k).0;
      live = λ s h. let o = w.other s h in r.left s (d.slot s o.0).1 o.1 (d.live s o.0);
      only = λ p l n. let o = r.only p l n in
          w.keeps _ o.0 (Memᴰ.cast (sym o.1.holds) (d.only o.1.cell o.1.cell_in (λ z. n (sym o.1.holds ∙ z))));
    }

-- the table looks at the codes of live slots alone
pub codes_sound : {home : ℕ → ℕ} {m : ℕ} {cells codes codes' order : List ℕ} → length codes ≤ length codes' → ((s : ℕ) → Memᴰ s order → get_or codes' s 0 ≡ get_or codes s 0)
    → Sound home m cells codes order → Sound home m cells codes' order
codes_sound {home} {m} {cells} l e d =
    record {
      tidy = record {
        wide = d.tidy.wide;
        once = d.tidy.once;
        homed = λ p k n. subst (λ (x : ℕ). Run cells m p (home x)) (sym (e _ (d.only p k n))) (d.tidy.homed p k n);
      };
      room = d.room;
      slot = λ s h. (omega (arith, (d.slot s h).0), (d.slot s h).1);
      differ = λ s t h k q. d.differ s t h k (sym (e s h) ∙ q ∙ e t k);
      live = d.live;
      only = d.only;
    }

-- all cells empty: no slot is live
pub none_sound : {home : ℕ → ℕ} {m : ℕ} {cells : List ℕ} (codes : List ℕ) → m ≤ length cells → 0 < m → ((p : ℕ) → p < m → get_or cells p 0 ≡ none_mark) → Sound home m cells codes []
none_sound codes w l e =
    record {
      tidy = record { wide = w; once = λ p q k j n. absurd (n (e p k)); homed = λ p k n. absurd (n (e p k)) };
      room = l;
      slot = λ s h. absurd (Memᴰ.not-nil h);
      differ = λ s t h. absurd (Memᴰ.not-nil h);
      live = λ s h. absurd (Memᴰ.not-nil h);
      only = λ p k n. absurd (n (e p k));
    }

-- a table speaks of the members alone: any list with the same members is described as well, if a cell is left empty
pub order_sound : {home : ℕ → ℕ} {m : ℕ} {cells codes order order' : List ℕ} → Sound home m cells codes order → length order' < m → Same order order' → Sound home m cells codes order'
order_sound d l same =
    record {
      tidy = d.tidy;
      room = l;
      slot = λ s h. d.slot s (same.from s h);
      differ = λ s t h k. d.differ s t (same.from s h) (same.from t k);
      live = λ s h. d.live s (same.from s h);
      only = λ p k n. same.to _ (d.only p k n);
    }

-- a slot moved to the front
pub front_sound : {home : ℕ → ℕ} {m s : ℕ} {cells codes order : List ℕ} → Sound home m cells codes order → Memᴰ s order → Sound home m cells codes (s ∷ omit s order)
front_sound d h = order_sound d (omega (arith, d.room, front_short h)) (front_same h)

-- slot s left out at its place
pub place_sound : {home : ℕ → ℕ} {m s : ℕ} {codes cells cells' : List ℕ} (xs ys : List ℕ) → Sound home m cells codes (xs ++ s ∷ ys) → TakenOut home m codes s cells cells'
    → (Memᴰ s (xs ++ ys) → ⊥) → Sound home m cells' codes (xs ++ ys)
place_sound {s} xs ys d r n = removed_sound d r (place_without xs ys s n)

-- what `clear` leaves
pub clear_sound : {home : ℕ → ℕ} {m : ℕ} (cells codes : List ℕ) → m ≤ length cells → 0 < m → Sound home m (cleared m cells) codes []
clear_sound {home} {m} cells codes w l =
    none_sound codes
    (omega (arith, length-append (replicate m none_mark) (drop m cells), length-replicate m none_mark))
    l
    (λ p h. get_or-append (replicate m none_mark) (drop m cells) 0 p (omega (arith, length-replicate m none_mark)) ∙ get_or-replicate m p none_mark 0 h)

pub clear_tail : {m : ℕ} (cells : List ℕ) → m ≤ length cells → Tail m cells (cleared m cells)
clear_tail {m} cells w =
    record {
      size = omega (arith, length-append (replicate m none_mark) (drop m cells), length-replicate m none_mark, length-drop m cells);
      tail = drop_at (replicate m none_mark) (drop m cells) m (length-replicate m none_mark);
    }
