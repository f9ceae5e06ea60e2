-- All entries as rows, and what a skipped slot is to a caller.
-- Assumes nothing.
use Prim.Native.Nat.{ℕ}
use mathlib.Core.Bool.{true, false, not}
use mathlib.Core.List.{List, [], ◌∷◌, reverse}
use mathlib.Core.Path.{◌≡◌, refl, ap, ◌∙◌}
use native.Mathlib.Omega.{arith}
use lib.ListN.{length}
use borrow.Author.Tests.{ne_eqb, le-leb}
use Rattle.head.specs.declared.Head.{Head}
use Rattle.head.specs.declared.Row.{Row}
use Rattle.head.specs.declared.Rule.{Rule}
use Rattle.head.specs.Bounds.{none_mark}
use Rattle.head.specs.Rules.{stamp_rule, rule_of}
use Rattle.model.specs.Lists.{without, only, oldest}
use Rattle.model.specs.Desk.{keeps}
use Rattle.model.specs.Perform.{Cache}
use Rattle.head.specs.Fields.{Fields}
use Rattle.store.specs.State.{Describes}
use Rattle.store.proofs.Described.{order_length, order_live}
use Rattle.rows.specs.Views.{skipped}
use Rattle.rows.specs.Answers.{removed, Aged, WroteOldest, Sweepable, WroteRemoved, Listable, WroteAll, ListableBack, WroteBack}
use Rattle.rows.proofs.Trails.{without_none, only_end}
use Rattle.rows.proofs.Dropping.{oldest_all}
use Rattle.rows.proofs.Sweeping.{removed_gone}

-- ---- what a caller says of the skipped slot: it stands at place i, or there is none and the place is past the end

pub skip_slot : (i s : ℕ) (order : List ℕ) → (s ≡ none_mark → ⊥) → only i order ≡ s ∷ [] → only i order ≡ skipped s
skip_slot i s order n o = rw (ne_eqb s none_mark n) o

pub skip_none : (order : List ℕ) → only (length order) order ≡ skipped none_mark
skip_none order = only_end order

pub without_end : {A : Type 0} (xs : List A) → without (length xs) xs ≡ xs
without_end xs = without_none (length xs) xs (only_end xs)

module _ {h : Head} {f : Fields} {nx pv st cells : List ℕ} {c : Cache} (d : Describes h f nx pv st cells c) where
  pub all_stay : without (length c.slots.order) c.desk.entries ≡ c.desk.entries
  all_stay = ap (λ (n : ℕ). without n c.desk.entries) (order_length d) ∙ without_end c.desk.entries

-- ---- back to front

pub back_aged : {h : Head} {f : Fields} {pv : List ℕ} {rows : Fields} → ListableBack h f pv rows → Aged h f pv h.live none_mark rows
back_aged r =
    let d = r.seen.described in
    record {
      cache = r.cache;
      seen = r.seen;
      place = length r.cache.slots.order;
      there = skip_none r.cache.slots.order;
      some = rw (all_stay d) (omega (arith, order_live d));
      room = rw (order_live d) r.room;
    }

pub back_wrote : {h : Head} {f : Fields} {pv : List ℕ} {rows rows' : Fields} → WroteOldest h f pv h.live none_mark rows rows' → WroteBack h f pv rows rows'
back_wrote {h} p = record {
  written = λ c w.
      let d = w.described in
      let all : oldest h.live (without (length c.slots.order) c.desk.entries) ≡ reverse c.desk.entries =
      ap (oldest h.live) (all_stay d) ∙ ap (λ (n : ℕ). oldest n c.desk.entries) (order_live d) ∙ oldest_all c.desk.entries in
      rw all at (p.written c (length c.slots.order) (skip_none c.slots.order) (rw (all_stay d) (omega (arith, order_live d))) w);
}

-- ---- front to back: a rule that keeps none

abbrev pub no_stamp : Rule
no_stamp = record { number = stamp_rule; not = true; low = 0; high = 0 }

keeps_none : (e : Row) → keeps no_stamp e ≡ false
keeps_none e = rw (le-leb 0 e.stamp (omega arith))

removed_all : (es : List Row) → removed no_stamp es ≡ es
removed_all [] = refl
removed_all (e ∷ es) = removed_gone no_stamp e es (keeps_none e) ∙ ap (λ (l : List Row). e ∷ l) (removed_all es)

-- the rule that the code makes
pub no_stamp_lem : (q r : Rule) → q ≡ rule_of stamp_rule 0 0 → r ≡ record { number = q.number; not = not q.not; low = q.low; high = q.high } → r ≡ no_stamp
no_stamp_lem q r e g = g ∙ ap (λ (x : Rule). record { number = x.number; not = not x.not; low = x.low; high = x.high }) e

pub all_swept : {h : Head} {f : Fields} {nx : List ℕ} {rows : Fields} (q : Rule) → q ≡ no_stamp → Listable h f nx rows → Sweepable h f nx q rows
all_swept q e r = record { cache = r.cache; seen = r.seen; room = rw (e, removed_all r.cache.desk.entries) r.room }

pub all_wrote : {h : Head} {f : Fields} {nx : List ℕ} {rows rows' : Fields} (q : Rule) → q ≡ no_stamp → WroteRemoved h f nx q rows rows' → WroteAll h f nx rows rows'
all_wrote q e p = record {
  written = λ c w.
      let all : removed q c.desk.entries ≡ c.desk.entries = ap (λ (x : Rule). removed x c.desk.entries) e ∙ removed_all c.desk.entries in
      rw all at (p.written c w);
}
