-- 01's table of refusals, of the calls: 2 exactly where no cache is described; on a sound state a number exactly when its cause holds and none that is checked before it.
-- Assumes nothing.
use Prim.Native.Nat.{ℕ}
use mathlib.Core.Bool.{true, false}
use mathlib.Core.Logic.{◌↔◌}
use mathlib.Core.Path.{◌≡◌, sym, ◌∙◌}
use Rattle.head.specs.declared.Answer.{Answer}
use Rattle.head.specs.declared.Answer.TheVariants.{No}
use Rattle.head.specs.declared.Command.{Command}
use Rattle.head.specs.declared.Refusal.{Refusal}
use Rattle.head.specs.declared.Refusal.TheVariants.{NotOpened, Unsound, NotUnderstood}
use Rattle.head.specs.Fields.{Fields}
use Rattle.head.specs.Forms.{form_of}
use Rattle.model.specs.Causes.{cause, Given}
use Rattle.model.specs.Perform.{Cache, perform}
use Rattle.model.proofs.Refusing.{refused_exactly, never_1, never_2}
use Rattle.plan.specs.States.{State, Means, Sound}
use Rattle.door.specs.Served.{Serves, Calls, Reads, Tells, is_reader, is_teller, shortest}

-- what an answer that is the definitions' can be refused with
module _ (m : Command) (lent : ℕ) (c : Cache) {a : Answer} (f : a ≡ (perform m lent c).answer) where
  defined_exactly : (r : Refusal) → a ≡ No r ↔ Given (cause m lent c.desk) r
  defined_exactly r = (λ e. (refused_exactly m lent c r).0 (sym f ∙ e), λ g. f ∙ (refused_exactly m lent c r).1 g)

  defined_never_1 : a ≡ No NotOpened → ⊥
  defined_never_1 e = never_1 m lent c (sym f ∙ e)

  defined_never_2 : a ≡ No Unsound → ⊥
  defined_never_2 e = never_2 m lent c (sym f ∙ e)

-- ---- a call with so many rows lent

module _ {m : Command} {lent : ℕ} {s t : State} {a : Answer} (x : Serves m lent s t a) where
  -- on a sound state a refusal is given exactly when its cause holds and none that is checked before it
  pub serve_exactly : {c : Cache} → Means s c → (r : Refusal) → a ≡ No r ↔ Given (cause m lent c.desk) r
  serve_exactly {c} d = defined_exactly m lent c (x.sound c d).answer

  -- 1 is never answered on a sound state
  pub serve_never_1 : Sound s → a ≡ No NotOpened → ⊥
  serve_never_1 w = defined_never_1 m lent w.cache (x.sound w.cache w.described).answer

  -- and 2 exactly where no cache is described
  pub serve_two : a ≡ No Unsound ↔ (Sound s → ⊥)
  serve_two = (λ e w. defined_never_2 m lent w.cache (x.sound w.cache w.described).answer e, λ n. (x.unsound n).0)

-- ---- a call with row lists

module _ {m : Command} {s t : State} {rows out : Fields} {a : Answer} (x : Calls m s t rows out a) where
  pub call_exactly : {c : Cache} → Means s c → (r : Refusal) → a ≡ No r ↔ Given (cause m (shortest rows) c.desk) r
  call_exactly = serve_exactly x.serves

  pub call_two : a ≡ No Unsound ↔ (Sound s → ⊥)
  call_two = serve_two x.serves

-- ---- a call on a state that is only read

module _ {m : Command} {s : State} {rows out : Fields} {a : Answer} (x : Tells m s rows out a) where
  -- what does not read is refused with 8 on every sound state
  pub tell_other : is_teller (form_of m) ≡ false → Sound s → a ≡ No NotUnderstood
  tell_other k w = rw k at (x.answer w.cache w.described)

  -- what reads is refused as the table says
  pub tell_exactly : is_teller (form_of m) ≡ true → {c : Cache} → Means s c → (r : Refusal) → a ≡ No r ↔ Given (cause m (shortest rows) c.desk) r
  tell_exactly k {c} d = defined_exactly m (shortest rows) c (rw k at (x.answer c d))

module _ {m : Command} {s : State} {a : Answer} (x : Reads m s a) where
  -- what does not read, or lists, is refused with 8 on every sound state
  pub read_other : is_reader (form_of m) ≡ false → Sound s → a ≡ No NotUnderstood
  read_other k w = rw k at (x.sound w.cache w.described)

  -- what reads is refused as the table says
  pub read_exactly : is_reader (form_of m) ≡ true → {c : Cache} → Means s c → (r : Refusal) → a ≡ No r ↔ Given (cause m 0 c.desk) r
  read_exactly k {c} d = defined_exactly m 0 c (rw k at (x.sound c d))
