-- States given by their numbers: whether one is sound is computed, what it means is what it shows, and so contracts are met by computing.
-- Assumes nothing.
use Prim.Native.Nat.{ℕ}
use mathlib.Core.Bool.{Bool, true}
use mathlib.Core.Path.{◌≡◌, sym, subst}
use Rattle.head.specs.declared.Answer.{Answer}
use Rattle.head.specs.declared.Command.{Command}
use Rattle.head.specs.Fields.{Fields}
use Rattle.head.specs.Forms.{form_of}
use Rattle.model.specs.Perform.{Cache, verdict, handed, perform}
use Rattle.inspect.proofs.Decided as inspected
use Rattle.rows.specs.Written.{Written}
use Rattle.plan.specs.States.{State, Means, Sound, TailsKept}
use Rattle.plan.specs.Plans.{cells_stay}
use Rattle.door.specs.Served.{Follows, Reads, Serves, Calls, shortest, is_reader, if_taken}
use Rattle.outcomes.proofs.Decided.{shown, means_shown, sound_shows}

-- the tests of `inspect`, together
abbrev pub passes : State → Bool
passes s = inspected.passes s.head s.fields s.nexts s.prevs s.stack s.cells

passes_sound : (s : State) → passes s ≡ true → Sound s
passes_sound s = inspected.passed_whole s.head s.fields s.nexts s.prevs s.stack s.cells

-- a sound state means what it shows
pub means_computed : (s : State) → passes s ≡ true → Means s (shown s)
means_computed s e = sound_shows {s = s} (passes_sound s e)

-- ---- contracts

module _ (s : State) (e : passes s ≡ true) where
  -- what is said of every cache that the state means is said of the one that it shows
  alone : (P : Cache → Type 0) → P (shown s) → (c : Cache) → Means s c → P c
  alone P p c d = subst P (sym (means_shown {s = s} d)) p

  never : {A : Type 0} → (Sound s → ⊥) → A
  never f = absurd (f (passes_sound s e))

  pub reads_by : (m : Command) (a : Answer) → a ≡ if_taken (is_reader (form_of m)) (perform m 0 (shown s)).answer → Reads m s a
  reads_by m a q = record { sound = alone (λ (c : Cache). a ≡ if_taken (is_reader (form_of m)) (perform m 0 c).answer) q; unsound = λ f. never f }

  pub serves_by : (m : Command) (lent : ℕ) (t : State) (a : Answer) → passes t ≡ true → a ≡ (perform m lent (shown s)).answer → shown t ≡ (perform m lent (shown s)).left
      → TailsKept s t
      → (cells_stay (handed lent (verdict m (shown s).desk)).move (shown s).desk ≡ true → t.cells ≡ s.cells)
      → Serves m lent s t a
  serves_by m lent t a k q l u v = record {
    sound = alone (Follows m lent s t a) (record { answer = q; left = subst (Means t) l (means_computed t k); tails = u; cells = v });
    unsound = λ f. never f;
  }

  pub calls_by : (m : Command) (t : State) (rows rows' : Fields) (a : Answer) → Serves m (shortest rows) s t a
      → Written (perform m (shortest rows) (shown s)).rows rows rows'
      → Calls m s t rows rows' a
  calls_by m t rows rows' a q w = record {
    serves = q;
    hands = alone (λ (c : Cache). Written (perform m (shortest rows) c).rows rows rows') w;
    unsound = λ f. never f;
  }
