-- Rows written one after another into four lists.
-- Assumes nothing.
use Prim.Native.Nat.{ℕ, suc, ◌+◌, ◌<◌}
use mathlib.Core.List.{List, [], ◌∷◌, ◌++◌, append_assoc, append-nil}
use mathlib.Core.Path.{◌≡◌, refl, sym, ap, ◌∙◌}
use native.Mathlib.Omega.{arith}
use lib.ListN.{length, get_or, drop, set, length-set, length-append}
use lib.Seq.{drop-cons, set_at}
use Rattle.head.specs.declared.Row.{Row}
use Rattle.model.proofs.Mapping.{Mapping, map_length, map_append}
use Rattle.head.specs.Fields.{Fields, Reach}
use Rattle.store.specs.Acts.{Writable, Wrote}
use Rattle.store.proofs.Writing.{writable}
use Rattle.rows.specs.Written.{column, Overlaid, Written}

abbrev pub columns : (Row → ℕ) → Mapping Row ℕ
columns g = record { of = column g; each = g; none = refl; more = λ e es. refl }

overlay_none : (l : List ℕ) → Overlaid [] l l
overlay_none l = record { size = refl; same = refl }

overlay_more : {xs b a a' : List ℕ} (n x : ℕ) → length xs ≡ n → n < length b → Overlaid xs b a → a' ≡ set a n x → Overlaid (xs ++ (x ∷ [])) b a'
overlay_more {xs} {b} {a} n x e l o q =
    let was : a ≡ xs ++ get_or b n 0 ∷ drop (suc n) b =
    o.same ∙ ap (λ (j : ℕ). xs ++ drop j b) e ∙ ap (λ (t : List ℕ). xs ++ t) (drop-cons b n 0 l) in
    let z : length (xs ++ (x ∷ [])) ≡ suc n = omega (arith, length-append xs (x ∷ [])) in
    record {
      size = ap length q ∙ length-set a n x ∙ o.size;
      same =
          q ∙ ap (λ (t : List ℕ). set t n x) was ∙ set_at xs (get_or b n 0) (drop (suc n) b) x n e
          ∙ sym (ap (λ (j : ℕ). (xs ++ (x ∷ [])) ++ drop j b) z ∙ append_assoc xs (x ∷ []) (drop (suc n) b));
    }

written_none : (f : Fields) → Written [] f f
written_none f = record {
  codes = overlay_none f.codes;
  stamps = overlay_none f.stamps;
  values = overlay_none f.values;
  weights = overlay_none f.weights;
}

module _ {rows : List Row} {f g g' : Fields} (n : ℕ) (e : Row) (size : length rows ≡ n) (room : Writable n f) (w : Written rows f g) (q : Wrote n e g g') where
  wide : (p : Row → ℕ) → length (column p rows) ≡ n
  wide p = map_length (columns p) rows ∙ size

  written_more : Written (rows ++ (e ∷ [])) f g'
  written_more = record {
    codes = rw (map_append (columns (λ x. x.code.0)) rows (e ∷ [])) (overlay_more n e.code.0 (wide (λ x. x.code.0)) room.codes w.codes q.codes);
    stamps = rw (map_append (columns (λ x. x.stamp)) rows (e ∷ [])) (overlay_more n e.stamp (wide (λ x. x.stamp)) room.stamps w.stamps q.stamps);
    values = rw (map_append (columns (λ x. x.value)) rows (e ∷ [])) (overlay_more n e.value (wide (λ x. x.value)) room.values w.values q.values);
    weights = rw (map_append (columns (λ x. x.weight)) rows (e ∷ [])) (overlay_more n e.weight (wide (λ x. x.weight)) room.weights w.weights q.weights);
  }

-- n rows of a goal are written, the rest is still to write
pub record Laying (goal : List Row) (before now : Fields) (n : ℕ) (rest : List Row) : Type 0 where
  pub done : List Row
  pub size : length done ≡ n
  pub same : goal ≡ done ++ rest
  pub written : Written done before now
  pub room : Reach (length goal) before

pub laying_start : {goal : List Row} {f : Fields} → Reach (length goal) f → Laying goal f f 0 goal
laying_start {f = f} r = record { done = []; size = refl; same = refl; written = written_none f; room = r }

pub laying_end : {goal rest : List Row} {f g : Fields} {n : ℕ} → rest ≡ [] → Laying goal f g n rest → Written goal f g
laying_end e v =
    let z : _ ≡ v.done = v.same ∙ ap (λ (l : List Row). v.done ++ l) e ∙ append-nil v.done in
    rw z v.written

module _ {goal rest : List Row} {f g : Fields} {n : ℕ} {e : Row} (v : Laying goal f g n (e ∷ rest)) where
  -- the next row has a place
  place : n < length goal
  place = omega (arith, v.size, ap length v.same, length-append v.done (e ∷ rest))

  pub laying_room : Writable n g
  laying_room = record {
    codes = omega (arith, place, v.room.codes, v.written.codes.size);
    stamps = omega (arith, place, v.room.stamps, v.written.stamps.size);
    values = omega (arith, place, v.room.values, v.written.values.size);
    weights = omega (arith, place, v.room.weights, v.written.weights.size);
  }

  pub laying_step : {g' : Fields} → Wrote n e g g' → Laying goal f g' (n + 1) rest
  laying_step q = record {
    done = v.done ++ (e ∷ []);
    size = omega (arith, v.size, length-append v.done (e ∷ []));
    same = v.same ∙ sym (append_assoc v.done (e ∷ []) rest);
    written = written_more n e v.size (writable place v.room) v.written q;
    room = v.room;
  }
