-- What is decided on a sound state can be carried out, and its rows fit.
-- Assumes nothing.
use Prim.Native.Nat.{ℕ, ◌≤◌}
use mathlib.Core.Bool.{Bool, true, false, true≢false}
use mathlib.Core.Path.{◌≡◌, sym, ap, subst, ◌∙◌}
use native.Mathlib.Omega.{arith}
use lib.Dec.{leb}
use lib.ListN.{length}
use borrow.Author.Tests.{leb-true}
use Rattle.head.specs.declared.Command.{Command}
use Rattle.head.specs.declared.Form.{Form}
use Rattle.head.specs.Fields.{Fields, Reach}
use Rattle.model.specs.Moves.{Move}
use Rattle.model.specs.Calls.{Verdict}
use Rattle.model.specs.Perform.{Cache, verdict, handed}
use Rattle.model.proofs.Cases.{split}
use Rattle.model.proofs.Lawful.{Proper, Apart}
use Rattle.table.specs.Acts.{Decides}
use Rattle.plan.specs.declared.Decision.{Decision}
use Rattle.plan.specs.States.{State, Means, Sound}
use Rattle.plan.specs.Plans.{move_of, rows_of, Ready}
use Rattle.plan.proofs.Fitting.{call_proper, call_apart}
use Rattle.decide.specs.Settled.{Settles}
use Rattle.plan.specs.declared.Plan.{Plan}
use Rattle.act.specs.Acted.{Prepared, Offered, HandedOut}
use Rattle.door.specs.Served.{shortest}

-- the call is decided: the verdict of every described cache
pub record Decided (m : Command) (lent : ℕ) (s : State) (r : Decision) : Type 0 where
  pub settles : Settles (Means s) (verdict m) lent r

-- a decision on what is seen of a state
pub decided : {m : Command} {lent : ℕ} {s t : State} {r : Decision} → s ≡ t → Settles (Means s) (verdict m) lent r → Decided m lent t r
decided {m} {lent} {r = r} e p = record { settles = subst (λ (x : State). Settles (Means x) (verdict m) lent r) e p }

module _ {m : Command} {lent : ℕ} {s : State} {r : Decision} (p : Decided m lent s r) where
  -- every described cache is ready for the plan
  pub ready : (c : Cache) → Means s c → Ready r.plan c
  ready c d =
      let e : (handed lent (verdict m c.desk)).move ≡ move_of r.plan c.slots.order = ap (λ (v : Verdict). v.move) (p.settles.means c d) in
      record {
        named = p.settles.named c d;
        proper = subst (λ (x : Move). Proper c.desk x) e (call_proper m lent c d.lawful);
        apart = subst (λ (x : Move). Apart c.desk x) e (call_apart m lent c d.lawful);
      }

  pub prepared : Sound s → Prepared r.plan s
  prepared w = record { cache = w.cache; means = w.described; ready = ready w.cache w.described }

  -- no more rows than lent
  rows_most : (c : Cache) → Means s c → length (rows_of r.plan c) ≤ lent
  rows_most c d =
      let v : Verdict = verdict m c.desk in
      subst (λ (x : Verdict). length x.rows ≤ lent) (p.settles.means c d)
      (split (leb (length v.rows) lent)
      (λ t. rw t (leb-true (length v.rows) lent t))
      (λ t. rw t (omega arith)))

-- lists of rows reach what the shortest holds
shortest_reach : (rows : Fields) (k : ℕ) → k ≤ shortest rows → Reach k rows
shortest_reach rows k h = record { codes = omega arith; stamps = omega arith; values = omega arith; weights = omega arith }

pub offered : {m : Command} {n : ℕ} {s : State} {r : Decision} (rows : Fields) → n ≤ shortest rows → Decided m n s r → Sound s
    → Offered r.plan s.head s.fields s.nexts s.prevs rows
offered {s = s} {r} rows h p w = record {
  cache = w.cache;
  seen = record { stack = s.stack; cells = s.cells; described = w.described };
  named = p.settles.named w.cache w.described;
  room = shortest_reach rows (length (rows_of r.plan w.cache)) (let k = rows_most p w.cache w.described in omega arith);
}

-- the decision with as many rows lent as the shortest list holds
pub lent_by : {m : Command} {lent n : ℕ} {s : State} {r : Decision} → lent ≡ n → Decided m lent s r → Decided m n s r
lent_by e p = rw (← e) p

-- rows that were handed out of what is seen of a state
pub handed_by : {p : Plan} {s t : State} {rows rows' : Fields} → s ≡ t → HandedOut p s.head s.fields s.nexts s.prevs rows rows'
    → HandedOut p t.head t.fields t.nexts t.prevs rows rows'
handed_by {p} {rows = rows} {rows'} e o = subst (λ (x : State). HandedOut p x.head x.fields x.nexts x.prevs rows rows') e o

-- ---- what the tests at the door tell

-- the inspection of what is seen of a state passed
pub sound_found : {r : Bool} {s t : State} → s ≡ t → Decides r (Sound s) → r ≡ true → Sound t
sound_found e d h = subst Sound e (d.yes h)

-- it did not
pub none_found : {r : Bool} {s t : State} → s ≡ t → Decides r (Sound s) → r ≡ false → Sound t → ⊥
none_found e d h w = true≢false (sym (d.no (subst Sound (sym e) w)) ∙ h)

-- the command's form is one that the door takes, or it is not
pub form_known : (takes : Form → Bool) {b c : Bool} {f g : Form} → b ≡ takes f → f ≡ g → b ≡ c → takes g ≡ c
form_known takes p q e = ap takes (sym q) ∙ sym p ∙ e
