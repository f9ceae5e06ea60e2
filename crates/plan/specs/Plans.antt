-- What a plan does to a cache, which rows it hands out, and what it needs.
-- Assumes nothing.
use Rattle.std.specs.Prelude.{ℕ, suc, ◌≤◌, Bool, true, false, cond, ◌&&◌, List, [], ◌∷◌, reverse, ◌≡◌, eqb, leb, length}
use Rattle.head.specs.declared.Row.{Row}
use Rattle.head.specs.declared.Answer.{Answer}
use Rattle.head.specs.declared.Answer.TheVariants.{No}
use Rattle.head.specs.declared.Refusal.{Refusal}
use Rattle.model.specs.Lists.{without, only, oldest, marked, others}
use Rattle.model.specs.Desk.{Desk, marks}
use Rattle.model.specs.Moves.{Move, stay, raise, set, renew, drop, place, replace, fit, sweep, clear}
use Rattle.model.specs.Calls.{Verdict}
use Rattle.model.specs.Perform.{Cache}
use Rattle.model.proofs.Lawful.{Proper, Apart}
use Rattle.plan.specs.declared.Plan.{Plan}
use Rattle.plan.specs.declared.Plan.TheVariants.{Stay, List as ListFront, ListBack, Raise, Set, Renew, Drop, Place, Replace, Fit, Sweep, Clear}
use Rattle.plan.specs.declared.Decision.{Decision}

-- an answer with nothing to do
abbrev pub said : Answer → Decision
said a = record { answer = a; plan = Stay }

-- a refusal with nothing to do
abbrev pub denied : Refusal → Decision
denied r = said (No r)

-- the place of a slot in an order
abbrev pub place_of : ℕ → List ℕ → ℕ
place_of s [] = 0
place_of s (t ∷ ts) = cond (eqb t s) 0 (suc (place_of s ts))

-- the move that a plan is, where the entries' slots stand in this order
abbrev pub move_of : Plan → List ℕ → Move
move_of Stay order = stay
move_of ListFront order = stay
move_of ListBack order = stay
move_of (Raise s) order = raise (place_of s.0 order)
move_of (Set s v) order = set (place_of s.0 order) v
move_of (Renew s v) order = renew (place_of s.0 order) v
move_of (Drop s) order = drop (place_of s.0 order)
move_of (Place k e) order = place k e
move_of (Replace s k e) order = replace (place_of s.0 order) k e
move_of (Fit k n) order = fit k n
move_of (Sweep q) order = sweep q
move_of Clear order = clear

-- the rows that a plan hands out
abbrev pub rows_of : Plan → Cache → List Row
rows_of Stay c = []
rows_of ListFront c = c.desk.entries
rows_of ListBack c = reverse c.desk.entries
rows_of (Raise s) c = []
rows_of (Set s v) c = []
rows_of (Renew s v) c = []
rows_of (Drop s) c = []
rows_of (Place k e) c = oldest k c.desk.entries
rows_of (Replace s k e) c = oldest k (without (place_of s.0 c.slots.order) c.desk.entries)
rows_of (Fit k n) c = oldest k c.desk.entries
rows_of (Sweep q) c = marked (others (marks q c.desk.entries)) c.desk.entries
rows_of Clear c = []

-- the verdict that a decision stands for
abbrev pub meant : Decision → Cache → Verdict
meant d c = record { answer = d.answer; rows = rows_of d.plan c; move = move_of d.plan c.slots.order }

-- a slot holds one of the entries
abbrev pub Stands : ℕ → Cache → Type 0
Stands s c = only (place_of s c.slots.order) c.slots.order ≡ s ∷ []

-- the slot that a plan names holds an entry, and there are as many to leave as it says
abbrev pub Named : Plan → Cache → Type 0
Named Stay c = Unit {0}
Named ListFront c = Unit {0}
Named ListBack c = Unit {0}
Named (Raise s) c = Stands s.0 c
Named (Set s v) c = Stands s.0 c
Named (Renew s v) c = Stands s.0 c
Named (Drop s) c = Stands s.0 c
Named (Place k e) c = k ≤ length c.desk.entries
Named (Replace s k e) c = Stands s.0 c × (k ≤ length (without (place_of s.0 c.slots.order) c.desk.entries))
Named (Fit k n) c = k ≤ length c.desk.entries
Named (Sweep q) c = Unit {0}
Named Clear c = Unit {0}

-- what carrying out a plan needs of a cache
pub record Ready (p : Plan) (c : Cache) : Type 0 where
  pub named : Named p c
  pub proper : Proper c.desk (move_of p c.slots.order)
  pub apart : Apart c.desk (move_of p c.slots.order)

-- whether a move leaves every slot in its cell: where none comes, goes or changes its number
abbrev pub cells_stay : Move → Desk → Bool
cells_stay stay d = true
cells_stay (raise i) d = true
cells_stay (set i v) d = true
cells_stay (renew i v) d = true
cells_stay (drop i) d = false
cells_stay (place k e) d = false
cells_stay (replace i k e) d = false
cells_stay (fit k n) d = eqb k 0 && leb d.capacity n
cells_stay (sweep q) d = eqb (length (marked (others (marks q d.entries)) d.entries)) 0
cells_stay clear d = false
