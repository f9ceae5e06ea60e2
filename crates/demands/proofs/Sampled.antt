-- The sample run keeps the contracts, and the keeper beside it keeps its rule: so demand 3's hypotheses can be met.
-- Assumes nothing.
use Rattle.std.specs.Prelude.{Ok}
use Prim.Native.Nat.{ℕ, ◌*◌, ◌≤◌}
use mathlib.Core.Bool.{true, false, false≢true}
use mathlib.Core.List.{List, [], ◌∷◌}
use mathlib.Core.Path.{◌≡◌, refl, subst}
use native.Mathlib.Omega.{arith}
use lib.Dec.{eqb, lit≤}
use Rattle.head.specs.declared.Answer.TheVariants.{New, Is, Absent, Flag}
use Rattle.head.specs.declared.Command.TheVariants.{Peek, Contains, Get, Put}
use Rattle.head.specs.declared.Refusal.{Refusal}
use Rattle.head.specs.Bounds.{plain_kind, none_mark}
use Rattle.head.specs.Tails.{Tail}
use Rattle.crc.specs.Crc.{shift, shifts, with_byte, with_bytes, crc_of, bytes}
use Rattle.crc.specs.Home.{home_of}
use Rattle.model.specs.Codes.{Distinct}
use Rattle.model.specs.Desk.{plain, entry}
use Rattle.model.specs.Perform.{Cache, fresh, opening, refused, opened, verdict, perform}
use Rattle.model.specs.Runs.{brought}
use Rattle.model.proofs.Cases.{split}
use Rattle.list.specs.Inspect.{all_from, links_are, cell_ok, bare_ok, walk_ok, numbers_ok, links_ok}
use Rattle.table.specs.Cells.{wrap, ring, stops, past, answer, lookup, names}
use Rattle.head.specs.Walks.{walk}
use Rattle.table.specs.Acts.{filled, all_below, tallied, counts}
use Rattle.inspect.specs.Tests.{head_ok, used_stands, sum_ok, blank_at, stack_blank}
use Rattle.store.specs.State.{fields}
use Rattle.store.specs.Acts.{Tails}
use Rattle.rows.specs.Written.{Written}
use Rattle.plan.specs.States.{Means}
use Rattle.door.specs.Served.{Reads, Serves, Calls}
use Rattle.opening.specs.Begun.{Opens}
use Rattle.demands.specs.Runs.{Run, Day}
use Rattle.demands.specs.Counts.{Requests, new_answers, Keeps}
use Rattle.demands.specs.Samples.{two, four, lists₀, state₀, state₁, state₂, state₃, state₄, state₅, row, code, calls₈, holdings}
use Rattle.demands.proofs.Computed.{passes, means_computed, reads_by, serves_by, calls_by}
use Rattle.demands.proofs.Carried.{beside}

-- the six states are sound
pub sound₀ : passes state₀ ≡ true
unfolding head_ok walk_ok used_stands sum_ok blank_at stack_blank all_from links_are cell_ok bare_ok numbers_ok links_ok filled all_below tallied counts
sound₀ = refl

pub sound₁ : passes state₁ ≡ true
unfolding head_ok walk_ok used_stands sum_ok blank_at stack_blank all_from links_are cell_ok bare_ok numbers_ok links_ok filled all_below tallied counts names lookup answer past stops ring wrap home_of crc_of bytes with_bytes with_byte shifts shift
sound₁ = refl

pub sound₂ : passes state₂ ≡ true
unfolding head_ok walk_ok used_stands sum_ok blank_at stack_blank all_from links_are cell_ok bare_ok numbers_ok links_ok filled all_below tallied counts names lookup answer past stops ring wrap home_of crc_of bytes with_bytes with_byte shifts shift
sound₂ = refl

pub sound₃ : passes state₃ ≡ true
unfolding head_ok walk_ok used_stands sum_ok blank_at stack_blank all_from links_are cell_ok bare_ok numbers_ok links_ok filled all_below tallied counts names lookup answer past stops ring wrap home_of crc_of bytes with_bytes with_byte shifts shift
sound₃ = refl

pub sound₄ : passes state₄ ≡ true
unfolding head_ok walk_ok used_stands sum_ok blank_at stack_blank all_from links_are cell_ok bare_ok numbers_ok links_ok filled all_below tallied counts names lookup answer past stops ring wrap home_of crc_of bytes with_bytes with_byte shifts shift
sound₄ = refl

pub sound₅ : passes state₅ ≡ true
unfolding head_ok walk_ok used_stands sum_ok blank_at stack_blank all_from links_are cell_ok bare_ok numbers_ok links_ok filled all_below tallied counts names lookup answer past stops ring wrap home_of crc_of bytes with_bytes with_byte shifts shift
sound₅ = refl

-- lists of two, and of four, have no tail
pub tail₂ : {a b c d : ℕ} → Tail 2 (two a b) (two c d)
tail₂ = record { size = refl; tail = refl }

pub tail₄ : {a b c d e f g h : ℕ} → Tail 4 (four a b c d) (four e f g h)
tail₄ = record { size = refl; tail = refl }

pub no_tails : {cs vs nx pv ce cs' vs' nx' pv' ce' : List ℕ} → Tail 2 cs cs' → Tail 2 vs vs' → Tail 2 nx nx' → Tail 2 pv pv' → Tail 4 ce ce'
    → Tails 2 (fields cs (two 0 0) vs (two 0 0)) nx pv (two none_mark none_mark) ce (fields cs' (two 0 0) vs' (two 0 0)) nx' pv' (two none_mark none_mark) ce'
no_tails a b c d e = record { codes = a; stamps = tail₂; values = b; weights = tail₂; nexts = c; prevs = d; stacks = tail₂; table = e }

-- rows of one
pub row_written : (c v c' v' : ℕ) → Written (entry c 0 v 0 ∷ []) (row c' v') (row c v)
row_written c v c' v' = record {
  codes = record { size = refl; same = refl };
  stamps = record { size = refl; same = refl };
  values = record { size = refl; same = refl };
  weights = record { size = refl; same = refl };
}

pub row_kept : (c v : ℕ) → Written [] (row c v) (row c v)
row_kept c v = record {
  codes = record { size = refl; same = refl };
  stamps = record { size = refl; same = refl };
  values = record { size = refl; same = refl };
  weights = record { size = refl; same = refl };
}

-- the calls, one by one
put_1 : Calls (Put (code 1) 0 10) state₀ state₁ (row 0 0) (row 0 0) (New 0)
unfolding perform verdict walk
put_1 =
    calls_by state₀ sound₀ (Put (code 1) 0 10) state₁ (row 0 0) (row 0 0) (New 0)
    (serves_by state₀ sound₀ (Put (code 1) 0 10) 1 state₁ (New 0) sound₁ refl refl (no_tails tail₂ tail₂ tail₂ tail₂ tail₄) (λ e. absurd (false≢true e)))
    (row_kept 0 0)

put_2 : Calls (Put (code 2) 0 20) state₁ state₂ (row 0 0) (row 0 0) (New 0)
unfolding perform verdict walk
put_2 =
    calls_by state₁ sound₁ (Put (code 2) 0 20) state₂ (row 0 0) (row 0 0) (New 0)
    (serves_by state₁ sound₁ (Put (code 2) 0 20) 1 state₂ (New 0) sound₂ refl refl (no_tails tail₂ tail₂ tail₂ tail₂ tail₄) (λ e. absurd (false≢true e)))
    (row_kept 0 0)

peek_1 : Reads (Peek (code 1)) state₂ (Is 10)
unfolding perform verdict walk
peek_1 = reads_by state₂ sound₂ (Peek (code 1)) (Is 10) refl

get_1 : Serves (Get (code 1)) 0 state₂ state₃ (Is 10)
unfolding perform verdict walk
get_1 = serves_by state₂ sound₂ (Get (code 1)) 0 state₃ (Is 10) sound₃ refl refl (no_tails tail₂ tail₂ tail₂ tail₂ tail₄) (λ e. refl)

put_3 : Calls (Put (code 3) 0 30) state₃ state₄ (row 0 0) (row 2 20) (New 1)
unfolding perform verdict walk
put_3 =
    calls_by state₃ sound₃ (Put (code 3) 0 30) state₄ (row 0 0) (row 2 20) (New 1)
    (serves_by state₃ sound₃ (Put (code 3) 0 30) 1 state₄ (New 1) sound₄ refl refl (no_tails tail₂ tail₂ tail₂ tail₂ tail₄) (λ e. absurd (false≢true e)))
    (row_written 2 20 0 0)

get_9 : Serves (Get (code 9)) 0 state₄ state₄ Absent
unfolding perform verdict walk
get_9 = serves_by state₄ sound₄ (Get (code 9)) 0 state₄ Absent sound₄ refl refl (no_tails tail₂ tail₂ tail₂ tail₂ tail₄) (λ e. refl)

contains_2 : Reads (Contains (code 2)) state₄ (Flag false)
unfolding perform verdict walk
contains_2 = reads_by state₄ sound₄ (Contains (code 2)) (Flag false) refl

put_2_again : Calls (Put (code 2) 0 21) state₄ state₅ (row 2 20) (row 1 10) (New 1)
unfolding perform verdict walk
put_2_again =
    calls_by state₄ sound₄ (Put (code 2) 0 21) state₅ (row 2 20) (row 1 10) (New 1)
    (serves_by state₄ sound₄ (Put (code 2) 0 21) 1 state₅ (New 1) sound₅ refl refl (no_tails tail₂ tail₂ tail₂ tail₂ tail₄) (λ e. absurd (false≢true e)))
    (row_written 1 10 2 20)

-- the run
pub run₈ : Run state₀ calls₈
run₈ = (put_1, (put_2, ((peek_1, refl, refl), ((get_1, refl), (put_3, ((get_9, refl), ((contains_2, refl, refl), (put_2_again, tt))))))))

-- `open` on lists that hold anything
pub opened₀ : Opens plain_kind 2 2 lists₀ state₀ (Ok state₀.head)
unfolding opening walk
opened₀ = record {
  opens = λ x e. (refl, subst (Means state₀) (opened_one e) (means_computed state₀ sound₀), record { codes = tail₂; stamps = tail₂; values = tail₂; weights = tail₂; nexts = tail₂; prevs = tail₂; stacks = tail₂; table = tail₄ });
  refuses = λ r e. absurd (opened_not e);
}
  where
    opened_one : {x : Cache} → opened (fresh plain 2 2) ≡ opened x → fresh plain 2 2 ≡ x
    opened_one e = cc

    opened_not : {r : Refusal} → opened (fresh plain 2 2) ≡ refused r → ⊥
    opened_not e = let z : ◌≡◌ {A = ℕ} 0 1 = cc in omega arith

abbrev pub day₈ : Day plain_kind 2 2
day₈ = record { lists = lists₀; numbers = refl; begun = state₀; said = Ok state₀.head; opens = opened₀; gave = refl; calls = calls₈; run = run₈ }

single : (x : ℕ) → Distinct (x ∷ [])
single x y = split (eqb y x) (λ e. rw e (omega arith)) (λ e. rw e (omega arith))

-- the keeper serves every call with one place
pub kept₈ : Keeps 1 calls₈ holdings
kept₈ =
    next (single 1) (lit≤ tt) refl
    (next (single 2) (lit≤ tt) refl
    (next (single 2) (lit≤ tt) tt
    (next (single 1) (lit≤ tt) (λ e. refl)
    (next (single 3) (lit≤ tt) refl
    (next (single 3) (lit≤ tt) (λ e. e)
    (next (single 3) (lit≤ tt) tt
    (next (single 2) (lit≤ tt) refl tt)))))))
  where
    next : {A B C D : Type 0} → A → B → C → D → A × B × C × D
    next a b c d = (a, b, c, d)

pub requests₈ : Requests calls₈
requests₈ = (lit≤ tt, (lit≤ tt, (tt, (tt, (lit≤ tt, (tt, (tt, (lit≤ tt, tt))))))))

-- four "new" answers, and the keeper brought in five
pub new₈ : new_answers calls₈ ≡ 4
new₈ = refl

pub brought₈ : brought [] holdings ≡ 5
brought₈ = refl

-- demand 3 of this run: (2 - 1 + 1) * 4 ≤ 2 * 5
pub met : 2 * 4 ≤ 2 * 5
met = beside 2 2 1 (lit≤ tt) (lit≤ tt) (lit≤ tt) day₈ requests₈ holdings kept₈
