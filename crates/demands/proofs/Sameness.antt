-- Two runs from the same opening with the same calls give the same answers, rows and states, cells excepted.
-- Assumes nothing.
use Prim.Native.Nat.{ℕ}
use mathlib.Core.List.{List, [], ◌∷◌}
use mathlib.Core.Path.{◌≡◌, sym, ap, ◌∙◌, subst}
use native.Mathlib.Omega.{arith}
use Rattle.model.specs.Desk.{kind_of}
use Rattle.model.specs.Perform.{Cache, fresh}
use Rattle.model.proofs.Handing.{left_room}
use Rattle.rows.specs.Written.{Written}
use Rattle.rows.proofs.Callers.{one_written}
use Rattle.plan.specs.States.{State, Means, TailsKept}
use Rattle.plan.proofs.Likeness.{Past, past_self, past_crossed, alike}
use Rattle.demands.specs.Runs.{Asked, Made, lent, asks}
use Rattle.demands.specs.Demands.{outcome, Told, AsDefined, AllAlike, Settled}
use Rattle.demands.proofs.Openings.{day_fresh, read_off}

-- ---- a run

agreed : (s t : State) (c : Cache) (as' bs : List Made) → Means s c → Means t c → Past s.head.slots s t → AsDefined s c as' → AsDefined t c bs → asks bs ≡ asks as' → AllAlike as' bs
agreed s t c [] [] d e p f g q = tt
agreed s t c [] (b ∷ bs) d e p f g q = let z : ◌≡◌ {A = ℕ} 0 1 = cc in absurd (omega arith)
agreed s t c (a ∷ as') [] d e p f g q = let z : ◌≡◌ {A = ℕ} 0 1 = cc in absurd (omega arith)
agreed s t c (a ∷ as') (b ∷ bs) d e p f g q =
    let o : b.asked ≡ a.asked = cc in
    let v = f.0 in
    let w : Told t b c = g.0 in
    let means : Means b.left (outcome a.asked c).left = subst (λ (x : Asked). Means b.left (outcome x c).left) o w.means in
    let rows : Written (outcome a.asked c).rows a.asked.rows b.rows = subst (λ (x : Asked). Written (outcome x c).rows x.rows b.rows) o w.rows in
    let n : s.head.slots ≡ a.left.head.slots = d.room ∙ sym (left_room a.asked.command (lent a.asked) c) ∙ sym v.means.room in
    let tails : Past s.head.slots t b.left = subst (λ (x : ℕ). Past x t b.left) (e.room ∙ sym d.room) w.tails in
    let past : Past a.left.head.slots a.left b.left = subst (λ (x : ℕ). Past x a.left b.left) n (past_crossed s t a.left b.left p v.tails tails) in
    let more : AsDefined b.left (outcome a.asked c).left bs = subst (λ (x : Asked). AsDefined b.left (outcome x c).left bs) o g.1 in (
      w.answer ∙ ap (λ (x : Asked). (outcome x c).answer) o ∙ sym v.answer,
      one_written rows v.rows,
      alike v.means means past,
      agreed a.left b.left (outcome a.asked c).left as' bs v.means means past f.1 more (cc),
    )

pub settled : Settled
settled kind c n d e l q =
    let u = day_fresh kind c n d in
    let v = day_fresh kind c n e in
    let x : Cache = fresh (kind_of kind) c n in
    let k : d.lists.head.slots ≡ d.begun.head.slots = ap (λ h. h.slots) d.numbers ∙ sym u.means.room in
    let first : Past d.begun.head.slots d.lists d.begun = subst (λ (y : ℕ). Past y d.lists d.begun) k u.tails in
    let second : Past d.begun.head.slots d.lists e.begun = subst (λ (y : ℕ). Past y d.lists e.begun) k (subst (λ (y : State). TailsKept y e.begun) l v.tails) in
    let past : Past d.begun.head.slots d.begun e.begun = past_crossed d.lists d.lists d.begun e.begun (past_self d.begun.head.slots d.lists) first second in
    (alike u.means v.means past, agreed d.begun e.begun x d.calls e.calls u.means v.means past (read_off kind c n d) (read_off kind c n e) q)
