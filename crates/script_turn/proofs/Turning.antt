-- A line carried out, by what it says.
-- Assumes nothing.
use Prim.Native.Nat.{ℕ}
use Rattle.std.specs.Prelude.{Option, Some, None, Result}
use mathlib.Core.Path.{◌≡◌, sym, ap, ◌∙◌, subst}
use Rattle.head.specs.declared.Head.{Head}
use Rattle.head.specs.declared.Answer.{Answer}
use Rattle.head.specs.declared.Answer.TheVariants.{No}
use Rattle.head.specs.declared.Refusal.{Refusal}
use Rattle.head.specs.declared.Refusal.TheVariants.{NotUnderstood}
use Rattle.head.specs.declared.Command.{Command}
use Rattle.head.specs.Fields.{Fields}
use Rattle.head.specs.Fresh.{fresh_head}
use Rattle.plan.specs.States.{State, Means}
use Rattle.door.specs.Served.{Calls}
use Rattle.opening.specs.Begun.{Opens, headed, head_left}
use Rattle.script_read.specs.declared.Line.{Line}
use Rattle.script_read.specs.declared.Line.TheVariants.{Open, Call}
use Rattle.script_turn.specs.Turned.{begun, Opening, Turns}

module _ {kind c n : ℕ} {s t : State} {o : Result Head Refusal} {a : Answer} (p : Opens kind c n (headed (fresh_head kind c n) s) (headed (fresh_head kind c n) t) o)
    (k : t.head ≡ head_left s.head o) (q : a ≡ begun o) where
  pub opening_turns : Opening kind c n s t a
  opening_turns = record {
    opens = λ x e.
        let g = p.opens x e in (
          q ∙ ap begun g.0,
          subst (λ (y : Head). Means (headed y t) x) (sym (k ∙ ap (head_left s.head) g.0)) g.1,
          g.2,
        );
    refuses = λ e w.
        let g = p.refuses e w in
        let z : t.head ≡ s.head = k ∙ ap (head_left s.head) g.0 in
        (q ∙ ap begun g.0, (λ i. headed (z i) (g.1 i)));
  }

module _ {l : Option Line} {s t : State} {rows rows' : Fields} {a : Answer} where
  pub turn_open : {kind c n : ℕ} → l ≡ Some (Open kind c n) → Opening kind c n s t a → rows' ≡ rows → Turns l s t rows rows' a
  turn_open e p q = rw e (p, q)

  pub turn_call : {m : Command} → l ≡ Some (Call m) → Calls m s t rows rows' a → Turns l s t rows rows' a
  turn_call e p = rw e p

  pub turn_unknown : l ≡ None → a ≡ No NotUnderstood → t ≡ s → rows' ≡ rows → Turns l s t rows rows' a
  turn_unknown e p q z = rw e (p, q, z)
