-- States that mean one cache, and are the same past what its slots need, are alike.
-- Assumes nothing.
use Prim.Native.Nat.{ℕ}
use mathlib.Core.List.{List}
use mathlib.Core.Path.{◌≡◌, refl, sym, ap, ◌∙◌, subst}
use Rattle.head.specs.declared.Row.{Row}
use Rattle.head.specs.Tails.{Tail}
use Rattle.model.specs.Perform.{Cache}
use Rattle.list.proofs.Unique.{agree}
use Rattle.store.specs.Acts.{Tails}
use Rattle.store.proofs.Settled.{one_state}
use Rattle.plan.specs.States.{State, Means, TailsKept, Alike}

-- ---- past what n slots need

-- past what n slots need, two states are the same
abbrev pub Past : ℕ → State → State → Type 0
Past n s t = Tails n s.fields s.nexts s.prevs s.stack s.cells t.fields t.nexts t.prevs t.stack t.cells

tail_self : {n : ℕ} {xs : List ℕ} → Tail n xs xs
tail_self = record { size = refl; tail = refl }

-- a state is the same as itself
pub past_self : (n : ℕ) (s : State) → Past n s s
past_self n s = record {
  codes = tail_self;
  stamps = tail_self;
  values = tail_self;
  weights = tail_self;
  nexts = tail_self;
  prevs = tail_self;
  stacks = tail_self;
  table = tail_self;
}

crossed : {n : ℕ} {xs ys as' bs : List ℕ} → Tail n xs ys → Tail n xs as' → Tail n ys bs → Tail n as' bs
crossed p q r = record { size = r.size ∙ p.size ∙ sym q.size; tail = r.tail ∙ p.tail ∙ sym q.tail }

-- what two states have in common, two that come of them have
pub past_crossed : {n : ℕ} (s t a b : State) → Past n s t → Past n s a → Past n t b → Past n a b
past_crossed s t a b p q r = record {
  codes = crossed p.codes q.codes r.codes;
  stamps = crossed p.stamps q.stamps r.stamps;
  values = crossed p.values q.values r.values;
  weights = crossed p.weights q.weights r.weights;
  nexts = crossed p.nexts q.nexts r.nexts;
  prevs = crossed p.prevs q.prevs r.prevs;
  stacks = crossed p.stacks q.stacks r.stacks;
  table = crossed p.table q.table r.table;
}

-- ---- alike

-- a state is like itself
pub alike_self : (s : State) → Alike s s
alike_self s = record { head = refl; fields = refl; nexts = refl; prevs = refl; stack = refl; cells = tail_self }

-- one cache, and the same past what its slots need: alike
pub alike : {s t : State} {c : Cache} → Means s c → Means t c → Past s.head.slots s t → Alike s t
alike {s} {t} d e p =
    let q = one_state d e in
    let n : ℕ = s.head.slots in
    let k : t.head.slots ≡ n = ap (λ h. h.slots) q.head in
    let r = d.reach in
    let u = e.reach in
    let codes = agree n t.fields.codes s.fields.codes (rw k at u.codes) r.codes (λ i l. sym (ap (λ (z : Row). z.code.0) (q.entries i l))) p.codes.tail in
    let stamps = agree n t.fields.stamps s.fields.stamps (rw k at u.stamps) r.stamps (λ i l. sym (ap (λ (z : Row). z.stamp) (q.entries i l))) p.stamps.tail in
    let values = agree n t.fields.values s.fields.values (rw k at u.values) r.values (λ i l. sym (ap (λ (z : Row). z.value) (q.entries i l))) p.values.tail in
    let weights = agree n t.fields.weights s.fields.weights (rw k at u.weights) r.weights (λ i l. sym (ap (λ (z : Row). z.weight) (q.entries i l))) p.weights.tail in
    record {
      head = q.head;
      fields = λ i. record { codes = codes i; stamps = stamps i; values = values i; weights = weights i };
      nexts = agree n t.nexts s.nexts (rw k at e.links.long.nexts) d.links.long.nexts (λ i l. sym (q.nexts i l)) p.nexts.tail;
      prevs = agree n t.prevs s.prevs (rw k at e.links.long.prevs) d.links.long.prevs (λ i l. sym (q.prevs i l)) p.prevs.tail;
      stack = agree n t.stack s.stack (rw k at e.links.long.stacks) d.links.long.stacks (λ i l. sym (q.stacks i l)) p.stacks.tail;
      cells = p.table;
    }

-- two states of one cache that come of one state, its tails kept, are alike
pub alike_left : (s : State) {t u : State} {c : Cache} → Means t c → Means u c → s.head.slots ≡ c.desk.room → TailsKept s t → TailsKept s u → Alike t u
alike_left s {t} {u} d e n p q =
    alike d e (subst (λ (k : ℕ). Past k t u) (n ∙ sym d.room) (past_crossed s s t u (past_self s.head.slots s) p q))
