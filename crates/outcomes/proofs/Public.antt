-- One outcome, read off for every public call: `cache::NAME` is the promise of its command in crates/door/specs/Served.antt, and `door::call` is `Calls` of any.
-- Assumes nothing.
use Rattle.std.specs.Prelude.{Result}
use Rattle.head.specs.declared.Refusal.{Refusal}
use Rattle.head.specs.declared.Head.{Head}
use Prim.Native.Nat.{ℕ}
use mathlib.Core.Path.{◌≡◌, refl}
use mathlib.Core.List.{List}
use Rattle.head.specs.declared.Code.{Code}
use Rattle.head.specs.declared.Rule.{Rule}
use Rattle.head.specs.declared.Answer.{Answer}
use Rattle.head.specs.declared.Command.{Command}
use Rattle.head.specs.declared.Command.TheVariants.{Len, Capacity, Weight, IsEmpty, IsFull, Front, Back, Peek, Contains, List as ListFront, ListBack, Get, Pop, PopFront, PopBack, Put, PutWithWeight, Clear, Retain, Resize, PutOrModify, TryPutOrModify, GetMut, PeekMut, FrontMut, BackMut}
use Rattle.head.specs.Fields.{Fields}
use Rattle.head.specs.Fresh.{fresh_head}
use Rattle.plan.specs.States.{State, state}
use Rattle.door.specs.Served.{Serves, Calls, Tells, Reads}
use Rattle.opening.specs.Begun.{Opens}
use Rattle.outcomes.specs.Agreed.{Agree}
use Rattle.outcomes.proofs.Same.{one_serve, one_call, one_tell, one_read, one_open}

-- `cache::open`: the state before has the fresh head and the lists as they were lent
pub open_one : {kind c n : ℕ} {codes stamps values weights nexts prevs stack cells : List ℕ} {t u : State} {r q : Result Head Refusal}
    → Opens kind c n (state (fresh_head kind c n) codes stamps values weights nexts prevs stack cells) t r
    → Opens kind c n (state (fresh_head kind c n) codes stamps values weights nexts prevs stack cells) u q
    → (r ≡ q) × Agree t u
open_one x y = one_open refl x y

-- ---- the calls that only read

-- `cache::len`
pub len_one : {s : State} {a b : Answer} → Reads Len s a → Reads Len s b → a ≡ b
len_one = one_read

-- `cache::capacity`
pub capacity_one : {s : State} {a b : Answer} → Reads Capacity s a → Reads Capacity s b → a ≡ b
capacity_one = one_read

-- `cache::weight`
pub weight_one : {s : State} {a b : Answer} → Reads Weight s a → Reads Weight s b → a ≡ b
weight_one = one_read

-- `cache::is_empty`
pub is_empty_one : {s : State} {a b : Answer} → Reads IsEmpty s a → Reads IsEmpty s b → a ≡ b
is_empty_one = one_read

-- `cache::is_full`
pub is_full_one : {s : State} {a b : Answer} → Reads IsFull s a → Reads IsFull s b → a ≡ b
is_full_one = one_read

-- `cache::front`
pub front_one : {s : State} {a b : Answer} → Reads Front s a → Reads Front s b → a ≡ b
front_one = one_read

-- `cache::back`
pub back_one : {s : State} {a b : Answer} → Reads Back s a → Reads Back s b → a ≡ b
back_one = one_read

-- `cache::peek`
pub peek_one : {c : Code} {s : State} {a b : Answer} → Reads (Peek c) s a → Reads (Peek c) s b → a ≡ b
peek_one = one_read

-- `cache::contains`
pub contains_one : {c : Code} {s : State} {a b : Answer} → Reads (Contains c) s a → Reads (Contains c) s b → a ≡ b
contains_one = one_read

-- ---- the listings

-- `cache::list`
pub list_one : {s : State} {rows out out' : Fields} {a b : Answer} → Tells ListFront s rows out a → Tells ListFront s rows out' b
    → (a ≡ b) × (out ≡ out')
list_one = one_tell

-- `cache::list_back`
pub list_back_one : {s : State} {rows out out' : Fields} {a b : Answer} → Tells ListBack s rows out a → Tells ListBack s rows out' b
    → (a ≡ b) × (out ≡ out')
list_back_one = one_tell

-- ---- the calls that hand out no rows

-- `cache::get`
pub get_one : {c : Code} {s t u : State} {a b : Answer} → Serves (Get c) 0 s t a → Serves (Get c) 0 s u b
    → (a ≡ b) × Agree t u
get_one = one_serve

-- `cache::pop`
pub pop_one : {c : Code} {s t u : State} {a b : Answer} → Serves (Pop c) 0 s t a → Serves (Pop c) 0 s u b
    → (a ≡ b) × Agree t u
pop_one = one_serve

-- `cache::pop_front`
pub pop_front_one : {s t u : State} {a b : Answer} → Serves PopFront 0 s t a → Serves PopFront 0 s u b
    → (a ≡ b) × Agree t u
pop_front_one = one_serve

-- `cache::pop_back`
pub pop_back_one : {s t u : State} {a b : Answer} → Serves PopBack 0 s t a → Serves PopBack 0 s u b
    → (a ≡ b) × Agree t u
pop_back_one = one_serve

-- `cache::clear`
pub clear_one : {s t u : State} {a b : Answer} → Serves Clear 0 s t a → Serves Clear 0 s u b
    → (a ≡ b) × Agree t u
clear_one = one_serve

-- `cache::get_mut`
pub get_mut_one : {c : Code} {v : ℕ} {s t u : State} {a b : Answer} → Serves (GetMut c v) 0 s t a → Serves (GetMut c v) 0 s u b
    → (a ≡ b) × Agree t u
get_mut_one = one_serve

-- `cache::peek_mut`
pub peek_mut_one : {c : Code} {v : ℕ} {s t u : State} {a b : Answer} → Serves (PeekMut c v) 0 s t a → Serves (PeekMut c v) 0 s u b
    → (a ≡ b) × Agree t u
peek_mut_one = one_serve

-- `cache::front_mut`
pub front_mut_one : {v : ℕ} {s t u : State} {a b : Answer} → Serves (FrontMut v) 0 s t a → Serves (FrontMut v) 0 s u b
    → (a ≡ b) × Agree t u
front_mut_one = one_serve

-- `cache::back_mut`
pub back_mut_one : {v : ℕ} {s t u : State} {a b : Answer} → Serves (BackMut v) 0 s t a → Serves (BackMut v) 0 s u b
    → (a ≡ b) × Agree t u
back_mut_one = one_serve

-- ---- the calls that hand out rows

-- `cache::put`
pub put_one : {c : Code} {k v : ℕ} {s t u : State} {rows out out' : Fields} {a b : Answer} → Calls (Put c k v) s t rows out a → Calls (Put c k v) s u rows out' b
    → (a ≡ b) × (out ≡ out') × Agree t u
put_one = one_call

-- `cache::put_with_weight`
pub put_with_weight_one : {c : Code} {k v w : ℕ} {s t u : State} {rows out out' : Fields} {a b : Answer} → Calls (PutWithWeight c k v w) s t rows out a → Calls (PutWithWeight c k v w) s u rows out' b
    → (a ≡ b) × (out ≡ out') × Agree t u
put_with_weight_one = one_call

-- `cache::retain`
pub retain_one : {q : Rule} {s t u : State} {rows out out' : Fields} {a b : Answer} → Calls (Retain q) s t rows out a → Calls (Retain q) s u rows out' b
    → (a ≡ b) × (out ≡ out') × Agree t u
retain_one = one_call

-- `cache::resize`
pub resize_one : {v : ℕ} {s t u : State} {rows out out' : Fields} {a b : Answer} → Calls (Resize v) s t rows out a → Calls (Resize v) s u rows out' b
    → (a ≡ b) × (out ≡ out') × Agree t u
resize_one = one_call

-- `cache::put_or_modify`
pub put_or_modify_one : {c : Code} {k v : ℕ} {s t u : State} {rows out out' : Fields} {a b : Answer} → Calls (PutOrModify c k v) s t rows out a → Calls (PutOrModify c k v) s u rows out' b
    → (a ≡ b) × (out ≡ out') × Agree t u
put_or_modify_one = one_call

-- `cache::try_put_or_modify`
pub try_put_or_modify_one : {c : Code} {k v w : ℕ} {s t u : State} {rows out out' : Fields} {a b : Answer} → Calls (TryPutOrModify c k v w) s t rows out a → Calls (TryPutOrModify c k v w) s u rows out' b
    → (a ≡ b) × (out ≡ out') × Agree t u
try_put_or_modify_one = one_call

-- `door::call`
pub any_one : {m : Command} {s t u : State} {rows out out' : Fields} {a b : Answer} → Calls m s t rows out a → Calls m s u rows out' b
    → (a ≡ b) × (out ≡ out') × Agree t u
any_one = one_call
