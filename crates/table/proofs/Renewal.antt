-- Making the cells anew from an order: the loop of `rebuild`.
-- Assumes nothing.
use mathlib.Core.Path.{◌≡◌, refl, sym, ap, ◌∙◌, subst}
use mathlib.Core.Logic.{◌≢◌, ◌⊎◌, inl, inr, ⊎_elim}
use mathlib.Core.List.Memᴰ
use mathlib.Core.List.{List, [], ◌∷◌, Memᴰ}
use Prim.Native.Nat.{ℕ, ◌+◌, ◌-◌, ◌*◌, ◌≤◌, ◌<◌}
use native.Mathlib.Omega.{arith}
use lib.ListN.{length, get_or, drop}
use Rattle.head.specs.Walks.{walk}
use Rattle.head.proofs.Walking.{walk_length}
use Rattle.model.specs.Codes.{Distinct}
use Rattle.model.proofs.Members.{distinct_first, distinct_rest}
use Rattle.table.specs.Sound.{Sound}
use Rattle.table.specs.Links.{Keyed}
use Rattle.head.specs.Tails.{Tail}
use Rattle.table.specs.Acts.{Slotted, Rebuilt, inserted, cleared}
use Rattle.table.proofs.Members.{walk_on, walk_end}
use Rattle.table.proofs.Found.{sound_open}
use Rattle.table.proofs.Placed.{insert_sound, insert_tail}
use Rattle.table.proofs.Kept.{clear_sound, clear_tail, order_sound}

-- i slots of the order are in the table, `done`; the others are walked from `slot` on; `cells₀` is the table where the loop began
pub record Renewing (home : ℕ → ℕ) (n : ℕ) (cells₀ codes next order cells : List ℕ) (live slot i : ℕ) : Type 0 where
  pub keyed : Keyed n cells₀ codes next order
  pub live_is : length order ≡ live
  pub tail : Tail (2 * n) cells₀ cells
  pub done : List ℕ
  pub done_is : length done ≡ i
  pub sound : Sound home (2 * n) cells codes done
  pub split : (s : ℕ) → Memᴰ s order → Memᴰ s done ⊎ Memᴰ s (walk next slot (live - i))
  pub was : (s : ℕ) → Memᴰ s done → Memᴰ s order
  pub will : (s : ℕ) → Memᴰ s (walk next slot (live - i)) → Memᴰ s order
  pub apart : (s : ℕ) → Memᴰ s done → Memᴰ s (walk next slot (live - i)) → ⊥
  pub once : Distinct (walk next slot (live - i))

-- what is asked of an order does not look into the cells
keyed_long : {n : ℕ} {cells cells' codes next order : List ℕ} → length cells' ≡ length cells → Keyed n cells codes next order → Keyed n cells' codes next order
keyed_long e k =
    let l = k.listed in
    record { listed = record { wide = omega (arith, l.wide); room = l.room; coded = l.coded; linked = l.linked; once = l.once }; differ = k.differ }

-- ---- `cells₀` is what `clear` left of `cells`

tail₀ : {n : ℕ} {cells cells₀ codes next order : List ℕ} → Keyed n cells codes next order → cells₀ ≡ cleared (2 * n) cells → Tail (2 * n) cells cells₀
tail₀ {n} {cells} k e = subst (Tail (2 * n) cells) (sym e) (clear_tail cells k.listed.wide)

pub renew_start : {home : ℕ → ℕ} {n : ℕ} {cells cells₀ codes next : List ℕ} (live front : ℕ) → Keyed n cells codes next (walk next front live) → cells₀ ≡ cleared (2 * n) cells
    → Renewing home n cells₀ codes next (walk next front live) cells₀ live front 0
renew_start {home} {n} {cells} {codes} {next} live front k e =
    let l = k.listed in
    let z : live ≡ live - 0 = omega arith in
    let same : walk next front live ≡ walk next front (live - 0) = ap (walk next front) z in
    record {
      keyed = keyed_long (tail₀ k e).size k;
      live_is = walk_length next front live;
      tail = record { size = refl; tail = refl };
      done = [];
      done_is = refl;
      sound = subst (λ (c : List ℕ). Sound home (2 * n) c codes []) (sym e) (clear_sound cells codes l.wide (omega (arith, l.room)));
      split = λ s h. inr (subst (Memᴰ s) same h);
      was = λ s h. absurd (Memᴰ.not-nil h);
      will = λ s h. subst (Memᴰ s) (sym same) h;
      apart = λ s h. absurd (Memᴰ.not-nil h);
      once = subst Distinct same l.once;
    }

pub renew_whole : {home : ℕ → ℕ} {n : ℕ} {cells cells₀ cells' codes next order : List ℕ} → Keyed n cells codes next order → cells₀ ≡ cleared (2 * n) cells
    → Rebuilt home (2 * n) codes order cells₀ cells' → Rebuilt home (2 * n) codes order cells cells'
renew_whole k e r =
    let t = tail₀ k e in
    record { sound = r.sound; tail = record { size = r.tail.size ∙ t.size; tail = r.tail.tail ∙ t.tail } }

module _ {home : ℕ → ℕ} {n : ℕ} {cells₀ codes next order cells : List ℕ} {live slot i : ℕ} (hb : (c : ℕ) → home c < 2 * n)
    (v : Renewing home n cells₀ codes next order cells live slot i) where
  pub renew_end : live ≤ i → Rebuilt home (2 * n) codes order cells₀ cells
  renew_end h =
      record {
        sound = order_sound v.sound v.keyed.listed.room (record { to = v.was; from = all });
        tail = v.tail;
      }
    where
      all : (s : ℕ) → Memᴰ s order → Memᴰ s v.done
      all s m = ⊎_elim (λ k. k) (λ k. absurd (Memᴰ.not-nil (subst (Memᴰ s) (walk_end next slot live i h) k))) (v.split s m)

  module _ (h : i < live) where
    abbrev rest : List ℕ
    rest = walk next (get_or next slot 0) (live - (i + 1))

    opened : walk next slot (live - i) ≡ slot ∷ rest
    opened = walk_on next slot live i h

    here : Memᴰ slot order
    here = v.will slot (subst (Memᴰ slot) (sym opened) (Memᴰ.head refl))

    pub renew_slotted : Slotted (2 * n) cells codes slot
    renew_slotted = record { table = sound_open v.sound; coded = (v.keyed.listed.coded slot here).0 }

    pub renew_linked : slot < length next
    renew_linked = v.keyed.listed.linked slot here

    pub renew_on : {cells' : List ℕ} → cells' ≡ inserted home (2 * n) cells codes slot → Renewing home n cells₀ codes next order cells' live (get_or next slot 0) (i + 1)
    renew_on {cells'} e =
        let once' : Distinct (slot ∷ rest) = subst Distinct opened v.once in
        record {
          keyed = v.keyed;
          live_is = v.live_is;
          tail = record {
            size = ap length e ∙ (insert_tail hb (sound_open v.sound) slot).size ∙ v.tail.size;
            tail = ap (drop (2 * n)) e ∙ (insert_tail hb (sound_open v.sound) slot).tail ∙ v.tail.tail;
          };
          done = slot ∷ v.done;
          done_is = omega (arith, v.done_is);
          sound = subst (λ (c : List ℕ). Sound home (2 * n) c codes (slot ∷ v.done)) (sym e)
              (insert_sound hb v.sound slot (v.keyed.listed.coded slot here) fresh (omega (arith, v.done_is, v.live_is, v.keyed.listed.room)));
          split = moved;
          was = λ s k. ⊎_elim (λ (w : s ≡ slot). Memᴰ.cast w here) (v.was s) (Memᴰ.cases_cons k);
          will = λ s k. v.will s (later s k);
          apart = apart' once';
          once = distinct_rest slot rest once';
        }
      where
        fresh : (s : ℕ) → Memᴰ s v.done → get_or codes s 0 ≢ get_or codes slot 0
        fresh s k z =
            v.apart slot (Memᴰ.cast (sym (v.keyed.differ s slot (v.was s k) here z)) k) (subst (Memᴰ slot) (sym opened) (Memᴰ.head refl))

        later : (s : ℕ) → Memᴰ s rest → Memᴰ s (walk next slot (live - i))
        later s k = subst (Memᴰ s) (sym opened) (Memᴰ.tail k)

        moved : (s : ℕ) → Memᴰ s order → Memᴰ s (slot ∷ v.done) ⊎ Memᴰ s rest
        moved s k =
            ⊎_elim (λ w. inl (Memᴰ.tail w))
            (λ w. ⊎_elim (λ (z : s ≡ slot). inl (Memᴰ.head z)) (λ z. inr z) (Memᴰ.cases_cons (subst (Memᴰ s) opened w)))
            (v.split s k)

        apart' : Distinct (slot ∷ rest) → (s : ℕ) → Memᴰ s (slot ∷ v.done) → Memᴰ s rest → ⊥
        apart' o s k w = ⊎_elim (λ (z : s ≡ slot). distinct_first slot rest o (Memᴰ.cast (sym z) w)) (λ z. v.apart s z (later s w)) (Memᴰ.cases_cons k)
