-- What carrying a plan out has to show.
-- Assumes nothing.
use Prim.Native.Nat.{ℕ}
use mathlib.Core.Bool.{false, true≢false}
use mathlib.Core.List.{List}
use mathlib.Core.Path.{◌≡◌, refl, sym, ◌∙◌, subst}
use Rattle.head.specs.Fields.{Fields}
use Rattle.model.specs.Desk.{Desk}
use Rattle.model.specs.Moves.{stay}
use Rattle.model.specs.Perform.{Cache}
use Rattle.store.specs.Caches.{after}
use Rattle.store.specs.Acts.{Tails}
use Rattle.store.proofs.Evicting.{tails_trans, tails_same}
use Rattle.plan.specs.declared.Plan.{Plan}
use Rattle.plan.specs.States.{State, Means, TailsKept}
use Rattle.plan.specs.Plans.{move_of, Ready, cells_stay}
use Rattle.act.specs.Acted.{Prepared, Acted}

-- a cache that is ready for the plan is ready for the constructor that the plan is
pub needed : {p : Plan} {s : State} (q : Plan) → p ≡ q → Prepared p s → Prepared q s
needed {s = s} q e a = subst (λ (x : Plan). Prepared x s) e a

-- what holds of the plan's constructor holds of the plan
pub acted_as : {p q : Plan} {s t : State} → p ≡ q → Acted q s t → Acted p s t
acted_as {p} {q} {s} {t} e a = subst (λ (x : Plan). Acted x s t) (sym e) a

-- a plan that may change cells
pub acted : (q : Plan) {s t : State} → ((order : List ℕ) (d : Desk) → cells_stay (move_of q order) d ≡ false) → TailsKept s t
    → ((c : Cache) → Ready q c → Means s c → Means t (after (move_of q c.slots.order) c))
    → Acted q s t
acted q k tails means = record {
  tails = tails;
  cells = λ c r d e. absurd (true≢false (sym e ∙ k c.slots.order c.desk));
  means = means;
}

-- a plan that leaves the cells
pub acted_beside : (q : Plan) {s t : State} → t.cells ≡ s.cells → TailsKept s t
    → ((c : Cache) → Ready q c → Means s c → Means t (after (move_of q c.slots.order) c))
    → Acted q s t
acted_beside q k tails means = record { tails = tails; cells = λ c r d e. k; means = means }

-- a plan that does nothing
pub stayed : (q : Plan) {s : State} → ((order : List ℕ) → move_of q order ≡ stay) → Acted q s s
stayed q {s} e = record {
  tails = tails_same s.fields s.nexts s.prevs s.stack s.cells;
  cells = λ c r d z. refl;
  means = λ c r d. rw (e c.slots.order) d;
}

-- two acts one after the other, where the head between has as many slots
pub tails_then : {n m : ℕ} {f g k : Fields} {a b c d a' b' c' d' a₂ b₂ c₂ d₂ : List ℕ} → m ≡ n → Tails n f a b c d g a' b' c' d'
    → Tails m g a' b' c' d' k a₂ b₂ c₂ d₂
    → Tails n f a b c d k a₂ b₂ c₂ d₂
tails_then e p q = tails_trans p (rw (sym e) q)
