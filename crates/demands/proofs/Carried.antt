-- What a run counts on its answers and rows is what the definitions count: so the tally and demand 3 hold of the calls.
-- Assumes nothing.
use Prim.Native.Nat.{ℕ, ◌≤◌}
use mathlib.Core.Bool.{Bool, true, cond, ◌||◌}
use mathlib.Core.List.{List, [], ◌∷◌}
use mathlib.Core.Path.{◌≡◌, refl, sym, ap, ◌∙◌, subst}
use native.Mathlib.Omega.{arith}
use Rattle.head.specs.Answers.{row_count}
use Rattle.head.specs.Bounds.{plain_kind}
use Rattle.head.specs.declared.Command.{Command}
use Rattle.head.specs.declared.Command.TheVariants.{Len, Capacity, Weight, IsEmpty, IsFull, Front, Back, Peek, Contains, List as ListFront, ListBack, Get, Pop, PopFront, PopBack, Put, PutWithWeight, Clear, Retain, Resize, PutOrModify, TryPutOrModify, GetMut, PeekMut, FrontMut, BackMut}
use Rattle.head.specs.declared.Answer.{Answer}
use Rattle.model.specs.Codes.{codes_of, one, has}
use Rattle.model.specs.Desk.{plain, kind_of}
use Rattle.model.specs.Perform.{Cache, Outcome, fresh, perform}
use Rattle.model.specs.Runs as model
use Rattle.model.specs.Runs.{Call, Sort, plain_put, other_put, getting, looking, pop_code, pop_end, trimming, clearing, another, new, value, sort_of, word_of, is_new, is_value, Request}
use Rattle.model.proofs.Cases.{split}
use Rattle.model.proofs.Handing.{rows_counted}
use Rattle.model.proofs.Tally.{tally}
use Rattle.model.proofs.Plain.{Plain, codes, request_asked, put_word_lem, fresh_plain}
use Rattle.model.proofs.Rival.{rival}
use Rattle.plan.specs.States.{State, Means}
use Rattle.demands.specs.Runs.{Asked, Made, lent, ending}
use Rattle.demands.specs.Views.{codes_in, row_codes}
use Rattle.demands.specs.Counts.{leaving, accepted, departed, Requests, new_answers, Keeps}
use Rattle.demands.specs.Demands.{outcome, AsDefined, Tallied, Beside, Taken, AllTaken, NoneRefused}
use Rattle.demands.proofs.Steps.{order_shown}
use Rattle.demands.proofs.Openings.{day_fresh, read_off}
use Rattle.demands.proofs.Rows.{written_codes}

-- the calls of a run, as the definitions take them
abbrev call_of : Asked → Call
call_of q = record { command = q.command; lent = lent q }

abbrev calls_of : List Made → List Call
calls_of [] = []
calls_of (a ∷ as') = call_of a.asked ∷ calls_of as'

-- ---- demand 3

requests_same : (as' : List Made) → Requests as' → model.Requests (calls_of as')
requests_same [] r = tt
requests_same (a ∷ as') r = (r.0, requests_same as' r.1)

new_same : (s : State) (c : Cache) (as' : List Made) → AsDefined s c as' → new_answers as' ≡ model.new_answers c (calls_of as')
new_same s c [] d = refl
new_same s c (a ∷ as') d =
    let here : one (is_new (word_of a.answer)) ≡ one (is_new (word_of (outcome a.asked c).answer)) = ap (λ (x : Answer). one (is_new (word_of x))) d.0.answer in
    let more = new_same a.left (outcome a.asked c).left as' d.1 in
    omega arith

keeps_same : (H : ℕ) (s : State) (c : Cache) (as' : List Made) (os : List (List ℕ)) → AsDefined s c as' → Keeps H as' os → model.Keeps H c (calls_of as') os
keeps_same H s c [] [] d k = tt
keeps_same H s c [] (o ∷ os) d k = absurd k
keeps_same H s c (a ∷ as') [] d k = absurd k
keeps_same H s c (a ∷ as') (o ∷ os) d k = (
  k.0,
  k.1,
  subst (λ (x : Answer). model.Serves (sort_of a.asked.command) (word_of x) o) d.0.answer k.2,
  keeps_same H a.left (outcome a.asked c).left as' os d.1 k.3,
)

pub beside : Beside
beside C N H h₁ h₂ h₃ d r os k =
    let e = read_off plain_kind C N d in
    let z = rival C N H h₁ h₂ h₃ (calls_of d.calls) os (requests_same d.calls r) (keeps_same H d.begun (fresh plain C N) d.calls os e k) in
    rw (new_same d.begun (fresh plain C N) d.calls e) z

-- ---- no `put` is refused

said_one : (b : Bool) → is_new (cond b value new) || is_value (cond b value new) ≡ true
said_one b = split b (λ e. rw e) (λ e. rw e)

module _ (C N : ℕ) (some : 1 ≤ C) (wide : C ≤ N) where
  taken : (m : Command) (n : ℕ) (c : Cache) → Plain C N c → Request (sort_of m) n → Taken (sort_of m) (word_of (perform m n c).answer)
  taken (Put k s v) n c p r = rw (put_word_lem C N some wide c p k s v n r) (said_one (has k.0 (codes c)))
  taken (Get k) n c p r = tt
  taken (Peek k) n c p r = tt
  taken (Contains k) n c p r = tt
  taken (PutWithWeight k s v w) n c p r = tt
  taken (PutOrModify k s v) n c p r = tt
  taken (TryPutOrModify k s v most) n c p r = tt
  taken (Pop k) n c p r = tt
  taken PopFront n c p r = tt
  taken PopBack n c p r = tt
  taken (Resize k) n c p r = tt
  taken (Retain q) n c p r = tt
  taken Clear n c p r = tt
  taken Len n c p r = tt
  taken Capacity n c p r = tt
  taken Weight n c p r = tt
  taken IsEmpty n c p r = tt
  taken IsFull n c p r = tt
  taken Front n c p r = tt
  taken Back n c p r = tt
  taken ListFront n c p r = tt
  taken ListBack n c p r = tt
  taken (GetMut k v) n c p r = tt
  taken (PeekMut k v) n c p r = tt
  taken (FrontMut v) n c p r = tt
  taken (BackMut v) n c p r = tt

  all_taken : (s : State) (c : Cache) (as' : List Made) → AsDefined s c as' → Plain C N c → Requests as' → AllTaken as'
  all_taken s c [] d p r = tt
  all_taken s c (a ∷ as') d p r = (
    subst (λ (x : Answer). Taken (sort_of a.asked.command) (word_of x)) (sym d.0.answer) (taken a.asked.command (lent a.asked) c p r.0),
    all_taken a.left (outcome a.asked c).left as' d.1 (request_asked C N some wide c p a.asked.command (lent a.asked) r.0).plain r.1,
  )

pub none_refused : NoneRefused
none_refused C N wide d r =
    let f = day_fresh plain_kind C N d in
    all_taken C N f.means.lawful.capacity.0 wide d.begun (fresh plain C N) d.calls (read_off plain_kind C N d) (fresh_plain C N) r

-- ---- the tally

accepted_same : (s : State) (c : Cache) (as' : List Made) → AsDefined s c as' → accepted as' ≡ model.accepted c (calls_of as')
accepted_same s c [] d = refl
accepted_same s c (a ∷ as') d = rw (d.0.answer, accepted_same a.left (outcome a.asked c).left as' d.1)

-- who left by one call
leaving_same : (x : Sort) (live rows : List ℕ) (a : Answer) (c : Cache) (o : Outcome) → live ≡ codes_of c.desk.entries → rows ≡ codes_of o.rows → a ≡ o.answer
    → leaving x live (word_of a) rows ≡ model.departing x c o
leaving_same (plain_put k) live rows a c o p q e = q
leaving_same (other_put k) live rows a c o p q e = q
leaving_same (getting k) live rows a c o p q e = refl
leaving_same looking live rows a c o p q e = refl
leaving_same (pop_code k) live rows a c o p q e = rw e
leaving_same pop_end live rows a c o p q e = rw e
leaving_same trimming live rows a c o p q e = q
leaving_same clearing live rows a c o p q e = p
leaving_same another live rows a c o p q e = refl

departed_same : (s : State) (c : Cache) (as' : List Made) → Means s c → AsDefined s c as' → departed s as' ≡ model.departed c (calls_of as')
departed_same s c [] m d = refl
departed_same s c (a ∷ as') m d =
    let t = d.0 in
    let o = outcome a.asked c in
    let n = ap row_count t.answer ∙ rows_counted a.asked.command (lent a.asked) c m.lawful.capacity.0 in
    let here = leaving_same (sort_of a.asked.command) (codes_in s) (row_codes a) a.answer c o (ap codes_of (order_shown m))
    (written_codes (row_count a.answer) o.rows a.asked.rows a.rows n t.rows) t.answer in
    rw (here, departed_same a.left o.left as' t.means d.1)

ending_means : (s : State) (c : Cache) (as' : List Made) → Means s c → AsDefined s c as' → Means (ending s as') (model.after c (calls_of as'))
ending_means s c [] m d = m
ending_means s c (a ∷ as') m d = ending_means a.left (outcome a.asked c).left as' d.0.means d.1

pub tallied : Tallied
tallied kind c n d =
    let m = (day_fresh kind c n d).means in
    let e = read_off kind c n d in
    let x = fresh (kind_of kind) c n in
    let z = ending_means d.begun x d.calls m e in
    rw (accepted_same d.begun x d.calls e, departed_same d.begun x d.calls m e, order_shown z) (tally (kind_of kind) c n (calls_of d.calls))
