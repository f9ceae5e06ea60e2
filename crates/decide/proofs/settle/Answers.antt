-- `decide::settle` meets its contract: one search, then each arm by its command.
-- Assumes nothing.
use Rattle.std.proofs.Common.{refl}
use Rattle.state.specs.State.{State, seen}
use Rattle.plan.specs.States.{Sound}
use Rattle.decide.proofs.Arms.{back_ending, back_readable, front_ending, front_readable, opened, search_reached, small, some_forward, some_loaded, some_weighted, len_arm, capacity_arm, weight_arm, empty_arm, full_arm, front_arm, back_arm, peek_arm, contains_arm, list_arm, list_back_arm, get_arm, pop_arm, pop_front_arm, pop_back_arm, put_arm, weighed_arm, clear_arm, retain_arm, resize_arm, modify_arm, try_arm, get_mut_arm, peek_mut_arm, front_mut_arm, back_mut_arm}
use Rattle.decide.proofs.settle.Goals as goal
use Rattle.decide.proofs.settle.Goals.{After-seek-search}

-- the state that was lent, and that it is sound
abbrev lent : (c : After-seek-search) → State
lent c = seen c.args.view.now

sound : (c : After-seek-search) → Sound (lent c)
sound c = c.requires

pub seek-search-requires : goal.seek-search-requires
seek-search-requires c = opened c.requires

pub is_full-requires : goal.is_full-requires
is_full-requires c = small (sound (goal.at.is_full-requires c).After-seek-search)

pub show-requires : goal.show-requires
show-requires c = front_ending (sound (goal.at.show-requires c).After-seek-search)

pub show-requires-in-Back : goal.show-requires-in-Back
show-requires-in-Back c = back_ending (sound (goal.at.show-requires-in-Back c).After-seek-search)

pub peek-requires : goal.peek-requires
peek-requires c = search_reached (sound (goal.at.peek-requires c).After-seek-search) c.args.command c.seek-search.ensures

pub get-requires : goal.get-requires
get-requires c = search_reached (sound (goal.at.get-requires c).After-seek-search) c.args.command c.seek-search.ensures

pub pop-requires : goal.pop-requires
pop-requires c = search_reached (sound (goal.at.pop-requires c).After-seek-search) c.args.command c.seek-search.ensures

pub pop_end-requires : goal.pop_end-requires
pop_end-requires c = front_ending (sound (goal.at.pop_end-requires c).After-seek-search)

pub pop_end-requires-in-PopBack : goal.pop_end-requires-in-PopBack
pop_end-requires-in-PopBack c = back_ending (sound (goal.at.pop_end-requires-in-PopBack c).After-seek-search)

pub put-requires : goal.put-requires
put-requires c = (search_reached (sound (goal.at.put-requires c).After-seek-search) c.args.command c.seek-search.ensures, rw c.plain_row.ensures refl)

pub put_with_weight-requires : goal.put_with_weight-requires
put_with_weight-requires c = some_loaded (sound (goal.at.put_with_weight-requires c).After-seek-search) c.in-PutWithWeight.is c.seek-search.ensures

pub retain-requires : goal.retain-requires
retain-requires c = some_forward (sound (goal.at.retain-requires c).After-seek-search)

pub resize-requires : goal.resize-requires
resize-requires c = some_weighted (sound (goal.at.resize-requires c).After-seek-search)

pub put_or_modify-requires : goal.put_or_modify-requires
put_or_modify-requires c = (search_reached (sound (goal.at.put_or_modify-requires c).After-seek-search) c.args.command c.seek-search.ensures, rw c.plain_row-in-PutOrModify.ensures refl)

pub try_put_or_modify-requires : goal.try_put_or_modify-requires
try_put_or_modify-requires c = (search_reached (sound (goal.at.try_put_or_modify-requires c).After-seek-search) c.args.command c.seek-search.ensures, rw c.plain_row-in-TryPutOrModify.ensures refl)

pub get_mut-requires : goal.get_mut-requires
get_mut-requires c = search_reached (sound (goal.at.get_mut-requires c).After-seek-search) c.args.command c.seek-search.ensures

pub peek_mut-requires : goal.peek_mut-requires
peek_mut-requires c = search_reached (sound (goal.at.peek_mut-requires c).After-seek-search) c.args.command c.seek-search.ensures

pub set_end-requires : goal.set_end-requires
set_end-requires c = front_readable (sound (goal.at.set_end-requires c).After-seek-search)

pub set_end-requires-in-BackMut : goal.set_end-requires-in-BackMut
set_end-requires-in-BackMut c = back_readable (sound (goal.at.set_end-requires-in-BackMut c).After-seek-search)

pub returns-in-Len : goal.returns-in-Len
returns-in-Len c = len_arm {s = lent (goal.at.returns-in-Len c).After-seek-search} c.in-Len.is (rw c.from-live.ensures at c.say.ensures)

pub returns-in-Capacity : goal.returns-in-Capacity
returns-in-Capacity c = capacity_arm {s = lent (goal.at.returns-in-Capacity c).After-seek-search} c.in-Capacity.is c.say-in-Capacity.ensures

pub returns-in-Weight : goal.returns-in-Weight
returns-in-Weight c = weight_arm {s = lent (goal.at.returns-in-Weight c).After-seek-search} c.in-Weight.is c.say-in-Weight.ensures

pub returns-in-IsEmpty : goal.returns-in-IsEmpty
returns-in-IsEmpty c = empty_arm {s = lent (goal.at.returns-in-IsEmpty c).After-seek-search} c.in-IsEmpty.is (rw c.from-live.ensures at c.say-in-IsEmpty.ensures)

pub returns-in-IsFull : goal.returns-in-IsFull
returns-in-IsFull c = full_arm {s = lent (goal.at.returns-in-IsFull c).After-seek-search} c.in-IsFull.is c.is_full.ensures c.say-in-IsFull.ensures

pub returns-in-Front : goal.returns-in-Front
returns-in-Front c = front_arm {s = lent (goal.at.returns-in-Front c).After-seek-search} c.in-Front.is c.show.ensures

pub returns-in-Back : goal.returns-in-Back
returns-in-Back c = back_arm {s = lent (goal.at.returns-in-Back c).After-seek-search} c.in-Back.is c.show-in-Back.ensures

pub returns-in-Peek : goal.returns-in-Peek
returns-in-Peek c = peek_arm {s = lent (goal.at.returns-in-Peek c).After-seek-search} c.seek-search.ensures c.in-Peek.is c.peek.ensures

pub returns-in-Contains : goal.returns-in-Contains
returns-in-Contains c = contains_arm {s = lent (goal.at.returns-in-Contains c).After-seek-search} c.seek-search.ensures c.in-Contains.is c.contains.ensures

pub returns-in-List : goal.returns-in-List
returns-in-List c = list_arm {s = lent (goal.at.returns-in-List c).After-seek-search} c.in-List.is c.list.ensures

pub returns-in-ListBack : goal.returns-in-ListBack
returns-in-ListBack c = list_back_arm {s = lent (goal.at.returns-in-ListBack c).After-seek-search} c.in-ListBack.is c.list-in-ListBack.ensures

pub returns-in-Get : goal.returns-in-Get
returns-in-Get c = get_arm {s = lent (goal.at.returns-in-Get c).After-seek-search} c.seek-search.ensures c.in-Get.is c.get.ensures

pub returns-in-Pop : goal.returns-in-Pop
returns-in-Pop c = pop_arm {s = lent (goal.at.returns-in-Pop c).After-seek-search} c.seek-search.ensures c.in-Pop.is c.pop.ensures

pub returns-in-PopFront : goal.returns-in-PopFront
returns-in-PopFront c = pop_front_arm {s = lent (goal.at.returns-in-PopFront c).After-seek-search} c.in-PopFront.is c.pop_end.ensures

pub returns-in-PopBack : goal.returns-in-PopBack
returns-in-PopBack c = pop_back_arm {s = lent (goal.at.returns-in-PopBack c).After-seek-search} c.in-PopBack.is c.pop_end-in-PopBack.ensures

pub returns-in-Put : goal.returns-in-Put
returns-in-Put c = put_arm {s = lent (goal.at.returns-in-Put c).After-seek-search} c.seek-search.ensures c.in-Put.is (rw c.plain_row.ensures at c.put.ensures)

pub returns-in-PutWithWeight : goal.returns-in-PutWithWeight
returns-in-PutWithWeight c = weighed_arm {s = lent (goal.at.returns-in-PutWithWeight c).After-seek-search} c.seek-search.ensures c.in-PutWithWeight.is c.put_with_weight.ensures

pub returns-in-Clear : goal.returns-in-Clear
returns-in-Clear c = clear_arm {s = lent (goal.at.returns-in-Clear c).After-seek-search} c.in-Clear.is (rw c.from-live.ensures refl)

pub returns-in-Retain : goal.returns-in-Retain
returns-in-Retain c = retain_arm {s = lent (goal.at.returns-in-Retain c).After-seek-search} c.in-Retain.is c.retain.ensures

pub returns-in-Resize : goal.returns-in-Resize
returns-in-Resize c = resize_arm {s = lent (goal.at.returns-in-Resize c).After-seek-search} c.in-Resize.is c.resize.ensures

pub returns-in-PutOrModify : goal.returns-in-PutOrModify
returns-in-PutOrModify c = modify_arm {s = lent (goal.at.returns-in-PutOrModify c).After-seek-search} c.seek-search.ensures c.in-PutOrModify.is (rw c.plain_row-in-PutOrModify.ensures at c.put_or_modify.ensures)

pub returns-in-TryPutOrModify : goal.returns-in-TryPutOrModify
returns-in-TryPutOrModify c = try_arm {s = lent (goal.at.returns-in-TryPutOrModify c).After-seek-search} c.seek-search.ensures c.in-TryPutOrModify.is (rw c.plain_row-in-TryPutOrModify.ensures at c.try_put_or_modify.ensures)

pub returns-in-GetMut : goal.returns-in-GetMut
returns-in-GetMut c = get_mut_arm {s = lent (goal.at.returns-in-GetMut c).After-seek-search} c.seek-search.ensures c.in-GetMut.is c.get_mut.ensures

pub returns-in-PeekMut : goal.returns-in-PeekMut
returns-in-PeekMut c = peek_mut_arm {s = lent (goal.at.returns-in-PeekMut c).After-seek-search} c.seek-search.ensures c.in-PeekMut.is c.peek_mut.ensures

pub returns-in-FrontMut : goal.returns-in-FrontMut
returns-in-FrontMut c = front_mut_arm {s = lent (goal.at.returns-in-FrontMut c).After-seek-search} c.in-FrontMut.is c.set_end.ensures

pub returns-in-BackMut : goal.returns-in-BackMut
returns-in-BackMut c = back_mut_arm {s = lent (goal.at.returns-in-BackMut c).After-seek-search} c.in-BackMut.is c.set_end-in-BackMut.ensures
