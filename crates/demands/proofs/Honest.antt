-- At the calls by which the impostors are refuted the contract can be kept: the outcomes that keep it.
-- Assumes nothing.
use mathlib.Core.Bool.{true, false≢true}
use mathlib.Core.Path.{◌≡◌, refl}
use Rattle.head.specs.declared.Answer.TheVariants.{New, Was, Done}
use Rattle.head.specs.declared.Command.TheVariants.{Put, Retain}
use Rattle.head.specs.Bounds.{plain_kind, none_mark, unused_mark}
use Rattle.crc.specs.Crc.{shift, shifts, with_byte, with_bytes, crc_of, bytes}
use Rattle.crc.specs.Home.{home_of}
use Rattle.model.specs.Perform.{verdict, perform}
use Rattle.list.specs.Inspect.{all_from, links_are, cell_ok, bare_ok, walk_ok, numbers_ok, links_ok}
use Rattle.table.specs.Cells.{wrap, ring, stops, past, answer, lookup, names}
use Rattle.head.specs.Walks.{walk}
use Rattle.table.specs.Acts.{filled, all_below, tallied, counts}
use Rattle.inspect.specs.Tests.{head_ok, used_stands, sum_ok, blank_at, stack_blank}
use Rattle.plan.specs.States.{State, state}
use Rattle.door.specs.Served.{Calls}
use Rattle.demands.specs.Samples.{two, four, sample, state₂, row, code}
use Rattle.demands.specs.Impostors.{only_one}
use Rattle.demands.proofs.Computed.{passes, serves_by, calls_by}
use Rattle.demands.proofs.Sampled.{sound₂, tail₂, tail₄, no_tails, row_written, row_kept}

-- 1 in front of 2, its value 11
abbrev pub renewed : State
renewed = sample 2 0 1 2 (two 1 2) (two 11 20) (two 1 none_mark) (two none_mark 0) (four 1 none_mark none_mark 0)

renewed_sound : passes renewed ≡ true
unfolding head_ok walk_ok used_stands sum_ok blank_at stack_blank all_from links_are cell_ok bare_ok numbers_ok links_ok filled all_below tallied counts names lookup answer past stops ring wrap home_of crc_of bytes with_bytes with_byte shifts shift
renewed_sound = refl

pub put_old : Calls (Put (code 1) 0 11) state₂ renewed (row 0 0) (row 0 0) (Was 10 0)
unfolding perform verdict walk
put_old =
    calls_by state₂ sound₂ (Put (code 1) 0 11) renewed (row 0 0) (row 0 0) (Was 10 0)
    (serves_by state₂ sound₂ (Put (code 1) 0 11) 1 renewed (Was 10 0) renewed_sound refl refl (no_tails tail₂ tail₂ tail₂ tail₂ tail₄) (λ e. refl))
    (row_kept 0 0)

-- 3 in front of 2, in the slot of 1
abbrev pub placed : State
placed = sample 2 0 1 2 (two 3 2) (two 30 20) (two 1 none_mark) (two none_mark 0) (four 1 none_mark 0 none_mark)

placed_sound : passes placed ≡ true
unfolding head_ok walk_ok used_stands sum_ok blank_at stack_blank all_from links_are cell_ok bare_ok numbers_ok links_ok filled all_below tallied counts names lookup answer past stops ring wrap home_of crc_of bytes with_bytes with_byte shifts shift
placed_sound = refl

pub put_new : Calls (Put (code 3) 0 30) state₂ placed (row 0 0) (row 1 10) (New 1)
unfolding perform verdict walk
put_new =
    calls_by state₂ sound₂ (Put (code 3) 0 30) placed (row 0 0) (row 1 10) (New 1)
    (serves_by state₂ sound₂ (Put (code 3) 0 30) 1 placed (New 1) placed_sound refl refl (no_tails tail₂ tail₂ tail₂ tail₂ tail₄) (λ e. absurd (false≢true e)))
    (row_written 1 10 0 0)

-- 1 alone, the other slot on the stack
abbrev pub swept : State
swept =
    state (record {
      kind = plain_kind;
      capacity = 2;
      slots = 2;
      live = 1;
      weight = 0;
      front = record { 0 = 0 };
      back = record { 0 = 0 };
      top = record { 0 = 2 };
      depth = record { 0 = 1 };
    }) (two 1 0) (two 0 0) (two 10 0) (two 0 0) (two none_mark unused_mark) (two none_mark 0) (two 1 none_mark) (four none_mark none_mark none_mark 0)

swept_sound : passes swept ≡ true
unfolding head_ok walk_ok used_stands sum_ok blank_at stack_blank all_from links_are cell_ok bare_ok numbers_ok links_ok filled all_below tallied counts names lookup answer past stops ring wrap home_of crc_of bytes with_bytes with_byte shifts shift
swept_sound = refl

pub retained : Calls (Retain only_one) state₂ swept (row 0 0) (row 2 20) (Done 1)
unfolding perform verdict walk
retained =
    calls_by state₂ sound₂ (Retain only_one) swept (row 0 0) (row 2 20) (Done 1)
    (serves_by state₂ sound₂ (Retain only_one) 1 swept (Done 1) swept_sound refl refl
    (record { codes = tail₂; stamps = tail₂; values = tail₂; weights = tail₂; nexts = tail₂; prevs = tail₂; stacks = tail₂; table = tail₄ })
    (λ e. absurd (false≢true e)))
    (row_written 2 20 0 0)
