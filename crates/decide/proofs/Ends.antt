-- The entry at the front and the one at the back, by the slots that the head names.
-- Assumes nothing.
use Rattle.std.proofs.Common.{◌≡◌, ℕ, ◌⊎◌, List, [], ◌∷◌, ◌++◌, length, sym, refl, ap, ◌∙◌, inl, inr, ⊎_elim, arith, eq-eqb, ne_eqb}
use lib.Dec.{leb-zero}
use Rattle.head.specs.declared.Head.{Head}
use Rattle.head.specs.declared.Slot.{Slot}
use Rattle.head.specs.Bounds.{none_mark, plain_kind}
use Rattle.head.specs.Fields.{Fields}
use Rattle.model.specs.Lists.{only}
use Rattle.model.specs.Desk.{Found, absent, present, first, last}
use Rattle.model.specs.Calls.{showing, popping, setting}
use Rattle.model.specs.Perform.{Cache, handed}
use Rattle.model.proofs.Backs.{back_of, only_back}
use Rattle.list.specs.Order.{head_or, last_or}
use Rattle.list.proofs.Chain.{last_append}
use Rattle.list.proofs.Marks.{same?}
use Rattle.store.specs.State.{entry_in, gather, Describes}
use Rattle.store.specs.Acts.{Writable}
use Rattle.store.proofs.Gathered.{only_in, last_gathered}
use Rattle.store.proofs.Described.{slot_in_lem}
use Rattle.plan.specs.Plans.{meant, Named}
use Rattle.decide.specs.Numbers.{shown, popped, assigned}
use Rattle.decide.proofs.Pointing.{Points, at_place, reached}
use Rattle.decide.proofs.Finding.{kind_plain, kind_weighed}

-- there is nothing at an end, or a slot points to what is there
pub record Ends (f : Fields) (c : Cache) (s : ℕ) (x : Found) : Type 0 where
  pub either : ((s ≡ none_mark) × (x ≡ absent)) ⊎ ((s ≡ none_mark → ⊥) × Points f c s x)

module _ {h : Head} {f : Fields} {nx pv st cells : List ℕ} {c : Cache} (d : Describes h f nx pv st cells c) where
  -- a slot of the order is no mark, and points to what stands at its place
  standing : (i s : ℕ) (x : Found) → only i c.slots.order ≡ s ∷ [] → x ≡ present i (entry_in f s) → Ends f c s x
  standing i s x o e =
      let p = at_place d i s o in
      let k = slot_in_lem d s (only_in i s c.slots.order o) in
      record { either = inr ((λ (z : s ≡ none_mark). omega (arith, d.lawful.room.1, d.room)), record { there = rw p o; found = rw p e }) }

  front_by : (order : List ℕ) → c.slots.order ≡ order → Ends f c h.front.0 (first c.desk.entries)
  front_by [] e = record {
    either = inl (d.links.front ∙ ap (head_or none_mark) e, ap first (sym d.entries ∙ ap (gather f) e));
  }
  front_by (s ∷ ss) e =
      let q : h.front.0 ≡ s = d.links.front ∙ ap (head_or none_mark) e in
      rw q (standing 0 s (first c.desk.entries) (ap (only 0) e) (ap first (sym d.entries ∙ ap (gather f) e)))

  pub front_ends : Ends f c h.front.0 (first c.desk.entries)
  front_ends = front_by c.slots.order refl

  back_by : (order : List ℕ) → c.slots.order ≡ order → Ends f c h.back.0 (last c.desk.entries)
  back_by [] e = record {
    either = inl (d.links.back ∙ ap (last_or none_mark) e, ap last (sym d.entries ∙ ap (gather f) e));
  }
  back_by (s ∷ ss) e =
      let b = back_of (s ∷ ss) (omega arith) in
      let o : c.slots.order ≡ b.front ++ (b.back ∷ []) = e ∙ b.same in
      let q : h.back.0 ≡ b.back = d.links.back ∙ ap (last_or none_mark) o ∙ last_append none_mark b.front (b.back ∷ []) in
      rw q
      (standing (length b.front) b.back (last c.desk.entries) (ap (only (length b.front)) o ∙ only_back b.front b.back)
      (ap last (sym d.entries ∙ ap (gather f) o) ∙ last_gathered f b.front b.back))

  pub back_ends : Ends f c h.back.0 (last c.desk.entries)
  back_ends = back_by c.slots.order refl

  module _ (s : Slot) (x : Found) (p : Ends f c s.0 x) where
    -- the fields reach the slot at an end
    pub end_reached : (s.0 ≡ none_mark → ⊥) → Writable s.0 f
    end_reached n = ⊎_elim (λ z. absurd (n z.0)) (λ z. reached d s.0 z.1.there) p.either

    pub shown_means : (lent : ℕ) → handed lent (showing x) ≡ meant (shown f s) c
    shown_means lent =
        ⊎_elim
        (λ z. rw (eq-eqb s.0 none_mark z.0, z.1, leb-zero lent) refl)
        (λ z. rw (ne_eqb s.0 none_mark z.0, z.1.found, leb-zero lent) refl)
        p.either

    pub shown_named : Named (shown f s).plan c
    shown_named = ⊎_elim (λ z. rw (eq-eqb s.0 none_mark z.0) tt) (λ z. rw (ne_eqb s.0 none_mark z.0) tt) p.either

    pub popped_means : (lent : ℕ) → handed lent (popping x) ≡ meant (popped f s) c
    popped_means lent =
        ⊎_elim
        (λ z. rw (eq-eqb s.0 none_mark z.0, z.1, leb-zero lent) refl)
        (λ z. rw (ne_eqb s.0 none_mark z.0, z.1.found, leb-zero lent) refl)
        p.either

    pub popped_named : Named (popped f s).plan c
    popped_named = ⊎_elim (λ z. rw (eq-eqb s.0 none_mark z.0) tt) (λ z. rw (ne_eqb s.0 none_mark z.0) z.1.there) p.either

    assigned_plain : (lent v : ℕ) → h.kind ≡ plain_kind → handed lent (setting x v c.desk) ≡ meant (assigned h.kind f.values s v) c
    assigned_plain lent v k =
        ⊎_elim
        (λ z. rw (kind_plain c.desk.kind (sym d.kind ∙ k), eq-eqb h.kind plain_kind k, eq-eqb s.0 none_mark z.0, z.1, leb-zero lent) refl)
        (λ z. rw (kind_plain c.desk.kind (sym d.kind ∙ k), eq-eqb h.kind plain_kind k, ne_eqb s.0 none_mark z.0, z.1.found, leb-zero lent) refl)
        p.either

    pub assigned_means : (lent v : ℕ) → handed lent (setting x v c.desk) ≡ meant (assigned h.kind f.values s v) c
    assigned_means lent v =
        ⊎_elim (λ k. assigned_plain lent v k)
        (λ n. rw (kind_weighed c.desk.kind (λ e. n (d.kind ∙ e)), ne_eqb h.kind plain_kind n, leb-zero lent) refl)
        (same? h.kind plain_kind)

    named_plain : (v : ℕ) → h.kind ≡ plain_kind → Named (assigned h.kind f.values s v).plan c
    named_plain v k =
        ⊎_elim
        (λ z. rw (eq-eqb h.kind plain_kind k, eq-eqb s.0 none_mark z.0) tt)
        (λ z. rw (eq-eqb h.kind plain_kind k, ne_eqb s.0 none_mark z.0) z.1.there)
        p.either

    pub assigned_named : (v : ℕ) → Named (assigned h.kind f.values s v).plan c
    assigned_named v = ⊎_elim (λ k. named_plain v k) (λ n. rw (ne_eqb h.kind plain_kind n) tt) (same? h.kind plain_kind)
