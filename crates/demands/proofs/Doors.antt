-- Runs of `door::call` and of the script's turns are runs of the public calls: each from an accepted opening on is a day, of which the demands hold.
-- Assumes nothing.
use Rattle.std.specs.Prelude.{Result, Ok}
use Rattle.head.specs.declared.Head.{Head}
use Prim.Native.Nat.{ℕ}
use Rattle.std.specs.Prelude.{Option, Some, None}
use mathlib.Core.List.{List, [], ◌∷◌}
use mathlib.Core.Path.{◌≡◌, refl, sym, ap, ◌∙◌, subst}
use native.Mathlib.Omega.{arith}
use Rattle.head.specs.declared.Answer.{Answer}
use Rattle.head.specs.declared.Answer.TheVariants.{Done, No}
use Rattle.head.specs.declared.Refusal.{Refusal}
use Rattle.head.specs.Fields.{Fields}
use Rattle.head.specs.Fresh.{fresh_head}
use Rattle.model.specs.Perform.{Opening, opening, refused, opened}
use Rattle.plan.specs.States.{State}
use Rattle.opening.specs.Begun.{spacious, Opens}
use Rattle.script_read.specs.declared.Line.{Line}
use Rattle.script_read.specs.declared.Line.TheVariants.{Open, Call}
use Rattle.script_read.specs.Grammar.{understood}
use Rattle.script_turn.specs.Turned.{Turns}
use Rattle.script_play.specs.Playing.{Lent, Carried, InTurn, none, more}
use Rattle.demands.specs.Runs.{Made, Run, ending, Day}
use Rattle.demands.specs.Doors.{DoorRun, Played, GoesOn, ScriptRun, call_of, calls_in, last_of, played_in, AllGoOn}
use Rattle.demands.proofs.Forms.{call_contract}

-- ---- `door::call`

-- a run of `door::call` is a run of the calls by name
pub door_run : (s : State) (as' : List Made) → DoorRun s as' → Run s as'
door_run s [] r = tt
door_run s (a ∷ as') r = (call_contract r.0, door_run a.left as' r.1)

-- and so a day, from an opening on that gave a cache
pub door_day : {kind c n : ℕ} (lists begun : State) (said : Result Head Refusal) (calls : List Made) → lists.head ≡ fresh_head kind c n → Opens kind c n lists begun said
    → said ≡ Ok begun.head
    → DoorRun begun calls
    → Day kind c n
door_day lists begun said calls h o g r = record {
  lists = lists;
  numbers = h;
  begun = begun;
  said = said;
  opens = o;
  gave = g;
  calls = calls;
  run = door_run begun calls r;
}

-- ---- the script

-- an opening that was not accepted leaves the state
open_stays : (kind c n : ℕ) {s t : State} {lent rows : Fields} {a : Answer} → Turns (Some (Open kind c n)) s t lent rows a → GoesOn (Some (Open kind c n)) a → t ≡ s
open_stays kind c n {s} {t} x g = by (opening kind c n (spacious n s)) refl
  where
    by : (o : Opening) → opening kind c n (spacious n s) ≡ o → t ≡ s
    by (refused e) q = (x.0.refuses e q).1
    by (opened y) q = absurd (g (x.0.opens y q).0)

-- the calls among the lines of a script are a run of the calls by name
pub script_run : (s : State) (as' : List Played) → ScriptRun s as' → Run s (calls_in as')
script_run s [] r = tt
script_run s (a ∷ as') r = by a.line r.0 r.1 (script_run a.left as' r.2)
  where
    by : (l : Option Line) → Turns l s a.left a.lent a.rows a.answer → GoesOn l a.answer → Run a.left (calls_in as') → Run s (call_of l a (calls_in as'))
    by (Some (Open kind c n)) x g k = subst (λ (t : State). Run t (calls_in as')) (open_stays kind c n x g) k
    by (Some (Call m)) x g k = (call_contract x, k)
    by None x g k = subst (λ (t : State). Run t (calls_in as')) x.1 k

-- and the state that they leave is the script's
pub script_last : (s : State) (as' : List Played) → ScriptRun s as' → ending s (calls_in as') ≡ last_of s as'
script_last s [] r = refl
script_last s (a ∷ as') r = by a.line r.0 r.1 (script_last a.left as' r.2)
  where
    by : (l : Option Line) → Turns l s a.left a.lent a.rows a.answer → GoesOn l a.answer → ending a.left (calls_in as') ≡ last_of a.left as'
        → ending s (call_of l a (calls_in as')) ≡ last_of a.left as'
    by (Some (Open kind c n)) x g k = ap (λ (t : State). ending t (calls_in as')) (sym (open_stays kind c n x g)) ∙ k
    by (Some (Call m)) x g k = k
    by None x g k = ap (λ (t : State). ending t (calls_in as')) (sym x.1) ∙ k

-- a state with the head that an opening starts from
abbrev pub unopened : ℕ → ℕ → ℕ → State → State
unopened kind c n s = record {
  head = fresh_head kind c n;
  fields = s.fields;
  nexts = s.nexts;
  prevs = s.prevs;
  stack = s.stack;
  cells = s.cells;
}

-- an opening that was accepted keeps `open`'s contract
script_opens : (kind c n : ℕ) {s t : State} {lent rows : Fields} {a : Answer} → Turns (Some (Open kind c n)) s t lent rows a → a ≡ Done 0
    → Opens kind c n (unopened kind c n s) t (Ok t.head)
script_opens kind c n x e = record {
  opens = λ y q. (refl, (x.0.opens y q).1, (x.0.opens y q).2);
  refuses = λ r q. absurd (not_done r (sym e ∙ (x.0.refuses r q).0));
}
  where
    not_done : (r : Refusal) → Done 0 ≡ No r → ⊥
    not_done r q = let z : ◌≡◌ {A = ℕ} 0 1 = cc in omega arith

-- the turns of a script from an accepted opening on are a day
pub script_day : (kind c n : ℕ) {s t : State} {lent rows : Fields} {a : Answer} → Turns (Some (Open kind c n)) s t lent rows a → a ≡ Done 0
    → (as' : List Played) → ScriptRun t as'
    → Day kind c n
script_day kind c n {s} {t} x e as' r = record {
  lists = unopened kind c n s;
  numbers = refl;
  begun = t;
  said = Ok t.head;
  opens = script_opens kind c n x e;
  gave = refl;
  calls = calls_in as';
  run = script_run t as' r;
}

-- ---- the script program

-- lines that `play` carried out in turn, none of them an accepted opening, are a run of the script
in_turn_run : {ls : List (List ℕ)} {x z : Lent} {said : List Answer} (p : InTurn ls x said z) → AllGoOn (played_in p) → ScriptRun x.state (played_in p)
unfolding played_in
in_turn_run none g = tt
in_turn_run (more c r) g = (c.turns, g.0, in_turn_run r g.1)

-- what `play` did from a line on that opened a cache, up to the next such line, is a day
pub play_day : (kind c n : ℕ) (l : List ℕ) {ls : List (List ℕ)} {a : Answer} {size : ℕ} {x y z : Lent} {said : List Answer} → Carried l x a size y
    → understood l ≡ Some (Open kind c n)
    → a ≡ Done 0
    → (p : InTurn ls y said z) → AllGoOn (played_in p)
    → Day kind c n
play_day kind c n l {a = a} {x = x} {y} k e d p g =
    script_day kind c n (subst (λ (l : Option Line). Turns l x.state y.state x.rows y.rows a) e k.turns) d (played_in p) (in_turn_run p g)
