-- What each call of document 01 answers, which rows it hands out, and its move. Refusals in the paper's order: 8, 3, 4, 7, 5; number 6, the last, is `perform`'s.
-- Assumes nothing.
use Rattle.std.specs.Prelude.{ℕ, ◌+◌, ◌-◌, ◌%◌, ◌^◌, Bool, true, false, cond, not, ◌&&◌, List, [], eqb, leb, ltb, length}
use Rattle.head.specs.declared.Row.{Row}
use Rattle.head.specs.declared.Rule.{Rule}
use Rattle.head.specs.declared.Refusal.{Refusal}
use Rattle.head.specs.declared.Refusal.TheVariants.{WrongKind, TooHeavy, NoSlot, OverCeiling, NotUnderstood}
use Rattle.head.specs.declared.Answer.{Answer}
use Rattle.head.specs.declared.Answer.TheVariants.{No, New, Was, Is, Now, Absent, Entry, Done, Count, Flag}
use Rattle.head.specs.Bounds.{capacity_ok}
use Rattle.model.specs.Lists.{without, oldest, marked, others}
use Rattle.model.specs.Desk.{Kind, plain, weighed, Desk, entry, Found, find, on_found, live, weighs, leaving, is_rule, marks}
use Rattle.model.specs.Moves.{Move, stay, raise, set, renew, drop, place, replace, fit, sweep, clear}

-- what a call answers, hands out and does
pub record Verdict : Type 0 where
  pub answer : Answer
  pub rows : List Row
  pub move : Move

-- an answer with a move, and no rows
abbrev pub saying : Answer → Move → Verdict
saying a m = record { answer = a; rows = []; move = m }

-- a refusal that leaves all untouched
abbrev pub refuse : Refusal → Verdict
refuse r = saying (No r) stay

-- a call for plain caches alone: 3 on a weighed one
abbrev pub on_plain : Kind → Verdict → Verdict
on_plain plain v = v
on_plain weighed v = refuse WrongKind

-- ---- readers

-- `len` is the number of entries
abbrev pub len_call : Desk → Verdict
len_call d = saying (Count (live d)) stay

-- `capacity` is C
abbrev pub capacity_call : Desk → Verdict
capacity_call d = saying (Count d.capacity) stay

-- `weight` is what the entries weigh together
abbrev pub weight_call : Desk → Verdict
weight_call d = saying (Count (weighs d.entries)) stay

-- `is_empty`: no entry
abbrev pub is_empty_call : Desk → Verdict
is_empty_call d = saying (Flag (eqb (live d) 0)) stay

-- `is_full`: live + weight = C
abbrev pub is_full_call : Desk → Verdict
is_full_call d = saying (Flag (eqb (live d + weighs d.entries) d.capacity)) stay

-- `front` and `back` show an entry and move nothing
abbrev pub showing : Found → Verdict
showing f = on_found f (saying Absent stay) (λ i e. saying (Entry e) stay)

-- `peek` answers the value of a code and moves nothing
abbrev pub peek_call : ℕ → Desk → Verdict
peek_call c d = on_found (find c d.entries) (saying Absent stay) (λ i e. saying (Is e.value) stay)

-- `contains`: whether the code is there
abbrev pub contains_call : ℕ → Desk → Verdict
contains_call c d = saying (Flag (on_found (find c d.entries) false (λ i e. true))) stay

-- a listing hands out all entries in some order
abbrev pub listing : List Row → Verdict
listing es = record { answer = Done (length es); rows = es; move = stay }

-- ---- taking and removing

-- `get` answers the value of a code and moves the entry to the front
abbrev pub get_call : ℕ → Desk → Verdict
get_call c d = on_found (find c d.entries) (saying Absent stay) (λ i e. saying (Is e.value) (raise i))

-- `pop` removes the entry of a code and answers its value
abbrev pub pop_call : ℕ → Desk → Verdict
pop_call c d = on_found (find c d.entries) (saying Absent stay) (λ i e. saying (Was e.value 0) (drop i))

-- `pop_front` and `pop_back` remove an entry and show it
abbrev pub popping : Found → Verdict
popping f = on_found f (saying Absent stay) (λ i e. saying (Entry e) (drop i))

-- `clear` removes all and answers how many
abbrev pub clear_call : Desk → Verdict
clear_call d = saying (Count (live d)) clear

-- `retain` removes what the rule does not keep and hands it out front to back; 8 where there is no such rule
abbrev pub retain_call : Rule → Desk → Verdict
retain_call q d =
    cond (is_rule q)
    (let out : List Row = marked (others (marks q d.entries)) d.entries in
    record { answer = Done (length out); rows = out; move = sweep q })
    (refuse NotUnderstood)

-- `resize` evicts from the back while the new capacity is below live + weight; 8 where it is no capacity
abbrev pub resize_call : ℕ → Desk → Verdict
resize_call c d =
    cond (capacity_ok c)
    (let k : ℕ = leaving c d.entries in
    record { answer = Done k; rows = oldest k d.entries; move = fit k c })
    (refuse NotUnderstood)

-- ---- putting

-- an absent code comes in after k leave from the back; 5 where every slot is taken and none leaves
abbrev pub admit : ℕ → Row → Answer → Desk → Verdict
admit k e a d =
    cond (eqb (live d) d.room && eqb k 0)
    (refuse NoSlot)
    (record { answer = a; rows = oldest k d.entries; move = place k e })

-- how many an absent code pushes out of a plain cache: the back where live = C
abbrev pub pushing : Desk → ℕ
pushing d = cond (eqb (live d) d.capacity) 1 0

-- `put`: a present code keeps its stamp, takes the value and moves to the front
abbrev pub put_call : ℕ → ℕ → ℕ → Desk → Verdict
put_call c s v d =
    on_plain d.kind
    (on_found (find c d.entries)
    (admit (pushing d) (entry c s v 0) (New (pushing d)) d)
    (λ i e. saying (Was e.value 0) (renew i v)))

-- the rest of the capacity beside a new entry of weight w: eviction goes on while live + weight + w >= C
abbrev pub beside : ℕ → Desk → ℕ
beside w d = d.capacity - 1 - w

-- an old entry at place i leaves, then entries from the back while there is no room beside the new one
abbrev pub exchange : ℕ → Row → Row → Desk → Verdict
exchange i old e d =
    let rest : List Row = without i d.entries in
    let k : ℕ = leaving (beside e.weight d) rest in
    record { answer = Was old.value k; rows = oldest k rest; move = replace i k e }

-- a weight that the kind does not take: any but 0 on a plain cache
abbrev pub wrong_weight : Kind → ℕ → Bool
wrong_weight plain w = not (eqb w 0)
wrong_weight weighed w = false

-- `put_with_weight`: 3 for a wrong weight, 4 for one of C or more; a present code leaves first
abbrev pub put_with_weight_call : ℕ → ℕ → ℕ → ℕ → Desk → Verdict
put_with_weight_call c s v w d =
    cond (wrong_weight d.kind w) (refuse WrongKind)
    (cond (leb d.capacity w) (refuse TooHeavy)
    (on_found (find c d.entries)
    (let k : ℕ = leaving (beside w d) d.entries in admit k (entry c s v w) (New k) d)
    (λ i e. exchange i e (entry c s v w) d)))

-- a sum modulo 2^64
abbrev pub sum64 : ℕ → ℕ → ℕ
sum64 a b = (a + b) % (2 ^ 64)

-- `put_or_modify`: absent, as `put` of the amount; present, the amount is added
abbrev pub put_or_modify_call : ℕ → ℕ → ℕ → Desk → Verdict
put_or_modify_call c s n d =
    on_plain d.kind
    (on_found (find c d.entries)
    (admit (pushing d) (entry c s n 0) (Now n true (pushing d)) d)
    (λ i e. saying (Now (sum64 e.value n) false 0) (renew i (sum64 e.value n))))

-- `try_put_or_modify`: 7 over the ceiling, where a present entry has moved to the front; else as `put_or_modify`
abbrev pub try_put_or_modify_call : ℕ → ℕ → ℕ → ℕ → Desk → Verdict
try_put_or_modify_call c s n most d =
    on_plain d.kind
    (on_found (find c d.entries)
    (cond (ltb most n) (refuse OverCeiling) (put_or_modify_call c s n d))
    (λ i e. cond (ltb most (e.value + n)) (saying (No OverCeiling) (raise i)) (put_or_modify_call c s n d)))

-- ---- setting a value, on plain caches; the answer is the value replaced

-- through `get_mut`: the entry moves to the front
abbrev pub get_mut_call : ℕ → ℕ → Desk → Verdict
get_mut_call c v d =
    on_plain d.kind
    (on_found (find c d.entries) (saying Absent stay) (λ i e. saying (Was e.value 0) (renew i v)))

-- through `peek_mut`, `front_mut` and `back_mut`: the entry stays where it is
abbrev pub setting : Found → ℕ → Desk → Verdict
setting f v d = on_plain d.kind (on_found f (saying Absent stay) (λ i e. saying (Was e.value 0) (set i v)))
