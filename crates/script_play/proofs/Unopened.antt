-- Before the first opening that is accepted no cache is described, so every call is refused with 2 and nothing is touched.
-- Assumes nothing.
use Prim.Native.Nat.{ℕ}
use Rattle.std.specs.Prelude.{Option, Some, None}
use mathlib.Core.Bool.{Bool, true, false, cond, ◌&&◌}
use mathlib.Core.List.{List}
use mathlib.Core.Logic.{◌⊎◌, inl, inr, ⊎_elim}
use mathlib.Core.Path.{◌≡◌, refl, ap, ◌∙◌}
use native.Mathlib.Omega.{arith}
use Rattle.head.specs.declared.Head.{Head}
use Rattle.head.specs.declared.Answer.{Answer}
use Rattle.head.specs.declared.Answer.TheVariants.{Done}
use Rattle.head.specs.declared.Refusal.TheVariants.{NotOpened}
use Rattle.head.specs.Bounds.{allowed}
use Rattle.head.specs.Fields.{Fields}
use Rattle.head.specs.Fresh.{fresh_head}
use Rattle.model.specs.Desk.{kind_of}
use Rattle.model.specs.Perform.{Opening, opening, fresh}
use Rattle.model.specs.Perform as model
use Rattle.plan.specs.States.{State, Sound}
use Rattle.opening.specs.Begun.{spacious}
use Rattle.script_read.specs.declared.Line.{Line}
use Rattle.script_read.specs.declared.Line.TheVariants.{Open, Call}
use Rattle.script_read.specs.Grammar.{understood}
use Rattle.script_turn.specs.Turned.{Turns}
use Rattle.script_play.specs.Playing.{Lent, InTurn, none, more}
use Rattle.script_play.specs.Unopened.{opens, refusal_of, Unopened, never, refused, opened}

-- a head of capacity 0 describes no cache
pub not_sound : {s : State} → s.head ≡ fresh_head 0 0 0 → Sound s → ⊥
not_sound e w = omega (arith, w.described.lawful.capacity.0, w.described.capacity, ap (λ (h : Head). h.capacity) e)

either : (b : Bool) (x y : Opening) → (cond b x y ≡ x) ⊎ (cond b x y ≡ y)
either true x y = inl refl
either false x y = inr refl

opening_either : (kind c n : ℕ) (long : Bool) → (opening kind c n long ≡ model.opened (fresh (kind_of kind) c n)) ⊎ (opening kind c n long ≡ model.refused NotOpened)
unfolding opening
opening_either kind c n long = either (allowed kind c n && long) (model.opened (fresh (kind_of kind) c n)) (model.refused NotOpened)

-- a line from such a head: an opening that is accepted, or refused with nothing touched
pub line_unopened : (l : Option Line) {s t : State} {rows rows' : Fields} {a : Answer} → s.head ≡ fresh_head 0 0 0 → Turns l s t rows rows' a
    → ((a ≡ Done 0) × (opens l ≡ true)) ⊎ ((a ≡ refusal_of l) × (t ≡ s) × (rows' ≡ rows))
line_unopened (Some (Open kind c n)) {s} e (p, q) =
    ⊎_elim (λ o. inl ((p.opens (fresh (kind_of kind) c n) o).0, refl))
    (λ o. let r = p.refuses NotOpened o in inr (r.0, r.1, q))
    (opening_either kind c n (spacious n s))
line_unopened (Some (Call m)) e p =
    let u = not_sound e in
    let r = p.serves.unsound u in
    inr (r.0, r.1, p.unsound u)
line_unopened None e p = inr p

-- every run from such a head
pub before_open : {ls : List (List ℕ)} {x z : Lent} {said : List Answer} → InTurn ls x said z → x.state.head ≡ fresh_head 0 0 0 → Unopened ls x said z
before_open none e = never
before_open (more {l} t p) e =
    ⊎_elim (λ o. opened o.0 o.1 t p)
    (λ r. refused r.0 r.1 r.2 (before_open p (ap (λ (s : State). s.head) r.1 ∙ e)))
    (line_unopened (understood l) e t.turns)
