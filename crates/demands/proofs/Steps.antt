-- A call that keeps its contract gives what the definitions say.
-- Assumes nothing.
use Prim.Native.Nat.{ℕ, ◌≤◌}
use mathlib.Core.List.{List, [], ◌∷◌}
use mathlib.Core.Path.{◌≡◌, refl, sym}
use native.Mathlib.Omega.{arith}
use lib.Dec.{leb}
use lib.ListN.{length}
use borrow.Author.Tests.{leb-true}
use Rattle.head.specs.declared.Row.{Row}
use Rattle.head.specs.declared.Answer.{Answer}
use Rattle.head.specs.declared.Command.{Command}
use Rattle.head.specs.declared.Form.{Form}
use Rattle.head.specs.declared.Form.TheVariants.{Reading, Listing, Acting, Handing}
use Rattle.head.specs.Fields.{Fields}
use Rattle.head.specs.Forms.{form_of}
use Rattle.model.specs.Desk.{Desk}
use Rattle.model.specs.Moves.{stay}
use Rattle.model.specs.Perform.{Cache, verdict, perform}
use Rattle.model.proofs.Cases.{split}
use Rattle.model.proofs.Forms.{Formed, formed}
use Rattle.list.proofs.Unique.{order_is, free_is}
use Rattle.rows.specs.Written.{Written}
use Rattle.rows.proofs.Nothing.{none_written}
use Rattle.plan.specs.States.{State, Means, TailsKept}
use Rattle.plan.proofs.Likeness.{past_self}
use Rattle.door.specs.Served.{Follows}
use Rattle.demands.specs.Runs.{Contract, lent_to, Made, Step, Run}
use Rattle.demands.specs.Views.{slots_in, entries_in, stack_in}
use Rattle.demands.specs.Demands.{Told, AsDefined, outcome}

-- ---- what a state shows

module _ {s : State} {c : Cache} (d : Means s c) where
  pub slots_shown : slots_in s ≡ c.slots.order
  slots_shown = sym (order_is d.links)

  pub order_shown : entries_in s ≡ c.desk.entries
  order_shown = rw slots_shown d.entries

  pub stack_shown : stack_in s ≡ c.slots.free
  stack_shown = sym (free_is d.links)

-- ---- a call that does nothing

-- what does nothing leaves the cache as it is
still_left : (m : Command) (lent : ℕ) (c : Cache) → (verdict m c.desk).move ≡ stay → (perform m lent c).left ≡ c
unfolding perform
still_left m lent c e = split (leb (length (verdict m c.desk).rows) lent) (λ t. rw (t, e)) (λ t. rw t)

-- with no row lent, none is handed out
no_rows : (rows : List Row) → length rows ≤ 0 → rows ≡ []
no_rows [] h = refl
no_rows (e ∷ es) h = absurd (omega arith)

none_handed : (m : Command) (c : Cache) → (perform m 0 c).rows ≡ []
unfolding perform
none_handed m c =
    let rows : List Row = (verdict m c.desk).rows in
    split (leb (length rows) 0) (λ t. rw t (no_rows rows (leb-true (length rows) 0 t))) (λ t. rw t)

-- ---- each form of contract

-- what a contract says where the state means a cache
record Gives (m : Command) (lent : ℕ) (s t : State) (rows rows' : Fields) (a : Answer) (c : Cache) : Type 0 where
  answer : a ≡ (perform m lent c).answer
  written : Written (perform m lent c).rows rows rows'
  means : Means t (perform m lent c).left
  tails : TailsKept s t

gives : (f : Form) (m : Command) (s t : State) (rows rows' : Fields) (a : Answer) → form_of m ≡ f → ((d : Desk) → Formed f (verdict m d)) → Contract f m s t rows rows' a → (c : Cache) → Means s c
    → Gives m (lent_to f rows) s t rows rows' a c
gives Reading m s t rows rows' a e q k c d = record {
  answer = rw e at (k.0.sound c d);
  written = rw (none_handed m c, k.2) (none_written rows);
  means = rw (still_left m 0 c (q c.desk).1, k.1) d;
  tails = rw k.1 (past_self s.head.slots s);
}
gives Listing m s t rows rows' a e q k c d = record {
  answer = rw e at (k.0.answer c d);
  written = rw e at (k.0.hands c d);
  means = rw (still_left m (lent_to Listing rows) c (q c.desk), k.1) d;
  tails = rw k.1 (past_self s.head.slots s);
}
gives Acting m s t rows rows' a e q k c d =
    let f : Follows m 0 s t a c = k.0.sound c d in
    record {
      answer = f.answer;
      written = rw (none_handed m c, k.1) (none_written rows);
      means = f.left;
      tails = f.tails;
    }
gives Handing m s t rows rows' a e q k c d =
    let f = k.serves.sound c d in
    record {
      answer = f.answer;
      written = k.hands c d;
      means = f.left;
      tails = f.tails;
    }

-- a call on a state that means a cache
pub told : (s : State) (a : Made) (c : Cache) → Step s a → Means s c → Told s a c
told s a c k d =
    let m : Command = a.asked.command in
    let g = gives (form_of m) m s a.left a.asked.rows a.rows a.answer refl (formed m) k c d in
    record {
      answer = g.answer;
      rows = g.written;
      order = order_shown g.means;
      weight = g.means.weight;
      slots = slots_shown g.means;
      stack = stack_shown g.means;
      means = g.means;
      tails = g.tails;
    }

-- a run from a state that means a cache
pub as_defined : (s : State) (c : Cache) (as' : List Made) → Run s as' → Means s c → AsDefined s c as'
as_defined s c [] r d = tt
as_defined s c (a ∷ as') r d =
    let t = told s a c r.0 d in
    (t, as_defined a.left (outcome a.asked c).left as' r.1 t.means)
