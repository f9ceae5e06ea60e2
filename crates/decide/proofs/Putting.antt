-- The calls that hand out rows: as many as lent, and what comes in.
-- Assumes nothing.
use Rattle.std.proofs.Common.{◌≡◌, ℕ, ◌+◌, ◌<◌, ◌≤◌, Bool, true, false, ◌&&◌, eqb, ltb, leb, List, length, get_or, sym, refl, ap, ◌∙◌, arith, le-ltb, lt-ltb}
use lib.Dec.{leb-zero}
use Rattle.head.specs.declared.Head.{Head}
use Rattle.head.specs.declared.Slot.{Slot}
use Rattle.head.specs.declared.Row.{Row}
use Rattle.head.specs.declared.Answer.{Answer}
use Rattle.head.specs.declared.Answer.TheVariants.{No, New, Now}
use Rattle.head.specs.declared.Refusal.TheVariants.{OverCeiling}
use Rattle.head.specs.Bounds.{plain_kind}
use Rattle.head.specs.Fields.{Fields}
use Rattle.model.specs.Lists.{oldest}
use Rattle.model.specs.Desk.{entry, live, leaving}
use Rattle.model.specs.Moves.{place}
use Rattle.model.specs.Calls.{Verdict, admit, pushing, put_call, put_or_modify_call, try_put_or_modify_call}
use Rattle.model.specs.Perform.{Cache, handed}
use Rattle.model.proofs.Cases.{split}
use Rattle.table.specs.declared.Search.{Search}
use Rattle.table.specs.declared.Search.TheVariants.{Found as FoundSlot, Empty}
use Rattle.store.specs.State.{Describes}
use Rattle.store.proofs.Described.{order_live}
use Rattle.model.proofs.Handing.{oldest_length}
use Rattle.plan.specs.declared.Decision.{Decision}
use Rattle.plan.specs.declared.Plan.TheVariants.{Raise, Place}
use Rattle.plan.specs.Plans.{denied, meant, Named}
use Rattle.decide.specs.Views.{Sought}
use Rattle.decide.specs.Settled.{Settles}
use Rattle.decide.specs.Numbers.{fitted, admitted, pushes, entered, modified}
use Rattle.decide.proofs.Pointing.{points}
use Rattle.decide.proofs.Finding.{says, on_plain_lem, if_absent}

-- no more leave than there are
pub leaving_most : (b : ℕ) (es : List Row) → leaving b es ≤ length es
leaving_most b es = omega arith

-- a row that weighs nothing
pub unweighed : (row : Row) → row.weight ≡ 0 → row ≡ entry row.code.0 row.stamp row.value 0
unweighed row e = ap (entry row.code.0 row.stamp row.value) e

-- ---- rows within what is lent

pub fitted_means : (c : Cache) (lent k : ℕ) (v : Verdict) (r : Decision) → length v.rows ≡ k → v ≡ meant r c → handed lent v ≡ meant (fitted lent k r) c
fitted_means c lent k v r n e =
    split (leb k lent)
    (λ t. rw (n, t) e)
    (λ t. rw (n, t) refl)

pub fitted_named : (c : Cache) (lent k : ℕ) (r : Decision) → Named r.plan c → Named (fitted lent k r).plan c
fitted_named c lent k r n = split (leb k lent) (λ t. rw t n) (λ t. rw t tt)

-- ---- an absent code

module _ {h : Head} {f : Fields} {nx pv st cells : List ℕ} {c : Cache} (d : Describes h f nx pv st cells c) where
  pushes_are : pushes h ≡ pushing c.desk
  pushes_are = rw (order_live d, d.capacity) refl

  pushing_most : pushing c.desk ≤ length c.desk.entries
  pushing_most =
      split (eqb (live c.desk) c.desk.capacity)
      (λ t. rw t (let z = borrow.Author.Tests.eqb-true (live c.desk) c.desk.capacity t in omega (arith, d.lawful.capacity.0)))
      (λ t. rw t (omega arith))

  pub admitted_means : (lent k : ℕ) (e : Row) (a : Answer) → k ≤ length c.desk.entries → handed lent (admit k e a c.desk) ≡ meant (admitted h lent k e a) c
  admitted_means lent k e a m =
      rw (order_live d, d.room)
      (split (eqb (live c.desk) c.desk.room && eqb k 0)
      (λ t. rw (t, leb-zero lent) refl)
      (λ t. rw t (fitted_means c lent k (record { answer = a; rows = oldest k c.desk.entries; move = place k e }) (record { answer = a; plan = Place k e }) (oldest_length k c.desk.entries m) refl)))

  pub admitted_named : (lent k : ℕ) (e : Row) (a : Answer) → k ≤ length c.desk.entries → Named (admitted h lent k e a).plan c
  admitted_named lent k e a m =
      split (eqb h.live h.slots && eqb k 0)
      (λ t. rw t tt)
      (λ t. rw t (fitted_named c lent k (record { answer = a; plan = Place k e }) m))

-- ---- the puts of a plain cache

module _ {h : Head} {values : List ℕ} {a : Search} {code : ℕ} (lent : ℕ) where
  -- a row comes in, and as many are pushed out as it needs
  comes_in : (row : Row) (told : ℕ → Answer) {r : Decision} → r ≡ admitted h lent (pushes h) row (told (pushes h))
      → Settles (Sought h values a code) (λ d. admit (pushing d) row (told (pushing d)) d) lent r
  comes_in row told w = record {
    means = λ c v. rw (w, pushes_are v.described) (admitted_means v.described lent (pushing c.desk) row (told (pushing c.desk)) (pushing_most v.described));
    named = λ c v. rw (w, pushes_are v.described) (admitted_named v.described lent (pushing c.desk) row (told (pushing c.desk)) (pushing_most v.described));
  }

  module _ (p : h.kind ≡ plain_kind) {cell count : ℕ} (e : a ≡ Empty cell count) (stamp n : ℕ) where
    pub put_none : {row : Row} {k : ℕ} {r : Decision} → row ≡ entry code stamp n 0 → k ≡ pushes h → r ≡ admitted h lent k row (New k)
        → Settles (Sought h values a code) (put_call code stamp n) lent r
    put_none y z w = on_plain_lem lent _ p (if_absent lent _ _ e (comes_in (entry code stamp n 0) New (rw (y, z) at w)))

    pub modify_none : {r : Decision} → r ≡ entered h lent code stamp n → Settles (Sought h values a code) (put_or_modify_call code stamp n) lent r
    modify_none w = on_plain_lem lent _ p (if_absent lent _ _ e (comes_in (entry code stamp n 0) (Now n true) w))

    pub try_none_over : (most : ℕ) {r : Decision} → most < n → r ≡ denied OverCeiling → Settles (Sought h values a code) (try_put_or_modify_call code stamp n most) lent r
    try_none_over most o w = on_plain_lem lent _ p (if_absent lent _ _ e (rw (lt-ltb most n o) (says _ lent w)))

    pub try_none : (most : ℕ) {r : Decision} → n ≤ most → r ≡ entered h lent code stamp n → Settles (Sought h values a code) (try_put_or_modify_call code stamp n most) lent r
    try_none most o w = on_plain_lem lent _ p (if_absent lent _ _ e (rw (le-ltb most n o) (modify_none w)))

  module _ (p : h.kind ≡ plain_kind) {s : Slot} {cell count : ℕ} (e : a ≡ FoundSlot s cell count) (stamp n : ℕ) where
    pub modify_found : {r : Decision} → r ≡ modified s (get_or values s.0 0) n → Settles (Sought h values a code) (put_or_modify_call code stamp n) lent r
    modify_found w = on_plain_lem lent _ p
        (record { means = λ c v. rw ((points v e).found, leb-zero lent, w) refl; named = λ c v. rw w (points v e).there })

    module _ (most : ℕ) {t : Bool} (z : t ≡ ltb most (get_or values s.0 0 + n)) where
      pub try_found_over : t ≡ true → Settles (Sought h values a code) (try_put_or_modify_call code stamp n most) lent (record { answer = No OverCeiling; plan = Raise s })
      try_found_over y = on_plain_lem lent _ p
          (record { means = λ c v. rw ((points v e).found, sym z ∙ y, leb-zero lent) refl; named = λ c v. (points v e).there })

      pub try_found : {r : Decision} → t ≡ false → r ≡ modified s (get_or values s.0 0) n → Settles (Sought h values a code) (try_put_or_modify_call code stamp n most) lent r
      try_found y w = on_plain_lem lent _ p
          (record { means = λ c v. rw ((points v e).found, sym z ∙ y) (rw (points v e).found at ((modify_found w).means c v)); named = (modify_found w).named })
