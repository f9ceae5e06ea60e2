-- A state is sound or it is not, and a sound one describes the cache that is read off its numbers.
-- Assumes nothing.
use mathlib.Core.Bool.{false≢true}
use mathlib.Core.Logic.{◌⊎◌, inl, inr}
use mathlib.Core.Path.{◌≡◌, refl, sym, ap, ◌∙◌, subst}
use lib.ListN.{take}
use Rattle.head.specs.Walks.{walk}
use Rattle.model.specs.Desk.{Kind, plain, weighed, kind_number, kind_of}
use Rattle.model.specs.Perform.{Cache}
use Rattle.model.proofs.Cases.{split}
use Rattle.list.proofs.Unique.{order_is, free_is}
use Rattle.store.specs.State.{gather}
use Rattle.inspect.proofs.Decided.{passes, passed_whole, whole_passes}
use Rattle.plan.specs.States.{State, Means, Sound}

-- the tests of the inspection say which
pub sound? : (s : State) → Sound s ⊎ (Sound s → ⊥)
sound? s =
    split (passes s.head s.fields s.nexts s.prevs s.stack s.cells)
    (λ e. inl (passed_whole s.head s.fields s.nexts s.prevs s.stack s.cells e))
    (λ e. inr (λ w. false≢true (sym e ∙ whole_passes s.head s.fields s.nexts s.prevs s.stack s.cells w)))

-- the cache that the numbers of a state spell
abbrev pub shown : State → Cache
shown s = record {
  desk = record {
    kind = kind_of s.head.kind;
    capacity = s.head.capacity;
    room = s.head.slots;
    entries = gather s.fields (walk s.nexts s.head.front.0 s.head.live);
  };
  slots = record {
    order = walk s.nexts s.head.front.0 s.head.live;
    free = take s.head.depth.0 s.stack;
    top = s.head.top.0;
  };
}

-- the kind of a kind's number is that kind
kind_back : (k : Kind) → kind_of (kind_number k) ≡ k
kind_back plain = refl
kind_back weighed = refl

-- a state describes no cache but that one
pub means_shown : {s : State} {c : Cache} → Means s c → c ≡ shown s
means_shown {s} {c} d =
    let kind : c.desk.kind ≡ kind_of s.head.kind = sym (kind_back c.desk.kind) ∙ ap kind_of (sym d.kind) in
    let order : c.slots.order ≡ walk s.nexts s.head.front.0 s.head.live = order_is d.links in
    let entries : c.desk.entries ≡ gather s.fields (walk s.nexts s.head.front.0 s.head.live) = sym d.entries ∙ ap (gather s.fields) order in
    let free : c.slots.free ≡ take s.head.depth.0 s.stack = free_is d.links in
    λ i. record {
      desk = record { kind = kind i; capacity = sym d.capacity i; room = sym d.room i; entries = entries i };
      slots = record { order = order i; free = free i; top = sym d.top i };
    }

-- and where it is sound it does describe it
pub sound_shows : {s : State} → Sound s → Means s (shown s)
sound_shows {s} w = subst (λ (c : Cache). Means s c) (means_shown {s = s} w.described) w.described
