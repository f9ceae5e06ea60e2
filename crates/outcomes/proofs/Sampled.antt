-- The samples are caches that states describe: the inspection's tests pass on the numbers, and the numbers spell the cache.
-- Assumes nothing.
use mathlib.Core.Path.{refl}
use Rattle.head.specs.Walks.{walk}
use Rattle.crc.specs.Home.{home_of}
use Rattle.crc.specs.Crc.{shift, shifts, with_byte, with_bytes, crc_of, bytes}
use Rattle.list.specs.Inspect.{all_from, links_are, cell_ok, bare_ok, walk_ok, numbers_ok, links_ok}
use Rattle.table.specs.Acts.{filled, all_below, tallied, counts}
use Rattle.table.specs.Cells.{wrap, ring, stops, past, answer, lookup, names}
use Rattle.inspect.specs.Tests.{head_ok, used_stands, sum_ok, blank_at, stack_blank}
use Rattle.inspect.proofs.Decided.{passed_whole}
use Rattle.plan.specs.States.{State, Means, Sound}
use Rattle.outcomes.specs.Samples.{roomy, full, laden, packed, bare, pair_state, bare_state}
use Rattle.outcomes.proofs.Decided.{sound_shows}

-- the tests pass on the numbers of the roomy cache
roomy_sound : Sound (pair_state 0 3 0 0 0)
unfolding head_ok walk_ok used_stands sum_ok blank_at stack_blank all_from links_are cell_ok bare_ok numbers_ok links_ok filled all_below tallied counts wrap ring stops past answer lookup names home_of shift shifts with_byte with_bytes crc_of bytes
roomy_sound =
    let s : State = pair_state 0 3 0 0 0 in
    passed_whole s.head s.fields s.nexts s.prevs s.stack s.cells refl

-- a state that describes the roomy cache
pub roomy_means : Means (pair_state 0 3 0 0 0) roomy
unfolding walk
roomy_means = sound_shows {s = pair_state 0 3 0 0 0} roomy_sound

-- the tests pass on the numbers of the full cache
full_sound : Sound (pair_state 0 2 0 0 0)
unfolding head_ok walk_ok used_stands sum_ok blank_at stack_blank all_from links_are cell_ok bare_ok numbers_ok links_ok filled all_below tallied counts wrap ring stops past answer lookup names home_of shift shifts with_byte with_bytes crc_of bytes
full_sound =
    let s : State = pair_state 0 2 0 0 0 in
    passed_whole s.head s.fields s.nexts s.prevs s.stack s.cells refl

-- a state that describes the full cache
pub full_means : Means (pair_state 0 2 0 0 0) full
unfolding walk
full_means = sound_shows {s = pair_state 0 2 0 0 0} full_sound

-- the tests pass on the numbers of the laden cache
laden_sound : Sound (pair_state 1 10 3 4 7)
unfolding head_ok walk_ok used_stands sum_ok blank_at stack_blank all_from links_are cell_ok bare_ok numbers_ok links_ok filled all_below tallied counts wrap ring stops past answer lookup names home_of shift shifts with_byte with_bytes crc_of bytes
laden_sound =
    let s : State = pair_state 1 10 3 4 7 in
    passed_whole s.head s.fields s.nexts s.prevs s.stack s.cells refl

-- a state that describes the laden cache
pub laden_means : Means (pair_state 1 10 3 4 7) laden
unfolding walk
laden_means = sound_shows {s = pair_state 1 10 3 4 7} laden_sound

-- the tests pass on the numbers of the packed cache
packed_sound : Sound (pair_state 1 9 3 4 7)
unfolding head_ok walk_ok used_stands sum_ok blank_at stack_blank all_from links_are cell_ok bare_ok numbers_ok links_ok filled all_below tallied counts wrap ring stops past answer lookup names home_of shift shifts with_byte with_bytes crc_of bytes
packed_sound =
    let s : State = pair_state 1 9 3 4 7 in
    passed_whole s.head s.fields s.nexts s.prevs s.stack s.cells refl

-- a state that describes the packed cache
pub packed_means : Means (pair_state 1 9 3 4 7) packed
unfolding walk
packed_means = sound_shows {s = pair_state 1 9 3 4 7} packed_sound

-- the tests pass on the numbers of the bare cache
bare_sound : Sound bare_state
unfolding head_ok walk_ok used_stands sum_ok blank_at stack_blank all_from links_are cell_ok bare_ok numbers_ok links_ok filled all_below tallied counts wrap ring stops past answer lookup names home_of shift shifts with_byte with_bytes crc_of bytes
bare_sound =
    let s : State = bare_state in
    passed_whole s.head s.fields s.nexts s.prevs s.stack s.cells refl

-- a state that describes the bare cache
pub bare_means : Means bare_state bare
unfolding walk
bare_means = sound_shows {s = bare_state} bare_sound
