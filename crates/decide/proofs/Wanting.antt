-- Which commands look for no code.
-- Assumes nothing.
use Rattle.std.proofs.Common.{◌≡◌, ℕ, refl}
use Rattle.std.specs.Prelude.{None}
use Rattle.head.specs.declared.Command.{Command}
use Rattle.head.specs.declared.Command.TheVariants.{Len, Capacity, Weight, IsEmpty, IsFull, Front, Back, Peek, Contains, List as ListFront, ListBack, Get, Pop, PopFront, PopBack, Put, PutWithWeight, Clear, Retain, Resize, PutOrModify, TryPutOrModify, GetMut, PeekMut, FrontMut, BackMut}
use Rattle.head.specs.declared.Code.{Code}
use Rattle.decide.specs.Wants.{wanted_by}

-- all but the ten that name one
pub none_wanted : (m : Command)
    → ((k : Code) → m ≡ Peek k → ⊥)
    → ((k : Code) → m ≡ Contains k → ⊥)
    → ((k : Code) → m ≡ Get k → ⊥)
    → ((k : Code) → m ≡ Pop k → ⊥)
    → ((k : Code) (a : ℕ) (b : ℕ) → m ≡ Put k a b → ⊥)
    → ((k : Code) (a : ℕ) (b : ℕ) (d : ℕ) → m ≡ PutWithWeight k a b d → ⊥)
    → ((k : Code) (a : ℕ) (b : ℕ) → m ≡ PutOrModify k a b → ⊥)
    → ((k : Code) (a : ℕ) (b : ℕ) (d : ℕ) → m ≡ TryPutOrModify k a b d → ⊥)
    → ((k : Code) (a : ℕ) → m ≡ GetMut k a → ⊥)
    → ((k : Code) (a : ℕ) → m ≡ PeekMut k a → ⊥)
    → None ≡ wanted_by m
unfolding wanted_by
none_wanted Len n0 n1 n2 n3 n4 n5 n6 n7 n8 n9 = refl
none_wanted Capacity n0 n1 n2 n3 n4 n5 n6 n7 n8 n9 = refl
none_wanted Weight n0 n1 n2 n3 n4 n5 n6 n7 n8 n9 = refl
none_wanted IsEmpty n0 n1 n2 n3 n4 n5 n6 n7 n8 n9 = refl
none_wanted IsFull n0 n1 n2 n3 n4 n5 n6 n7 n8 n9 = refl
none_wanted Front n0 n1 n2 n3 n4 n5 n6 n7 n8 n9 = refl
none_wanted Back n0 n1 n2 n3 n4 n5 n6 n7 n8 n9 = refl
none_wanted (Peek k) n0 n1 n2 n3 n4 n5 n6 n7 n8 n9 = absurd (n0 k refl)
none_wanted (Contains k) n0 n1 n2 n3 n4 n5 n6 n7 n8 n9 = absurd (n1 k refl)
none_wanted ListFront n0 n1 n2 n3 n4 n5 n6 n7 n8 n9 = refl
none_wanted ListBack n0 n1 n2 n3 n4 n5 n6 n7 n8 n9 = refl
none_wanted (Get k) n0 n1 n2 n3 n4 n5 n6 n7 n8 n9 = absurd (n2 k refl)
none_wanted (Pop k) n0 n1 n2 n3 n4 n5 n6 n7 n8 n9 = absurd (n3 k refl)
none_wanted PopFront n0 n1 n2 n3 n4 n5 n6 n7 n8 n9 = refl
none_wanted PopBack n0 n1 n2 n3 n4 n5 n6 n7 n8 n9 = refl
none_wanted (Put k a b) n0 n1 n2 n3 n4 n5 n6 n7 n8 n9 = absurd (n4 k a b refl)
none_wanted (PutWithWeight k a b d) n0 n1 n2 n3 n4 n5 n6 n7 n8 n9 = absurd (n5 k a b d refl)
none_wanted Clear n0 n1 n2 n3 n4 n5 n6 n7 n8 n9 = refl
none_wanted (Retain x) n0 n1 n2 n3 n4 n5 n6 n7 n8 n9 = refl
none_wanted (Resize x) n0 n1 n2 n3 n4 n5 n6 n7 n8 n9 = refl
none_wanted (PutOrModify k a b) n0 n1 n2 n3 n4 n5 n6 n7 n8 n9 = absurd (n6 k a b refl)
none_wanted (TryPutOrModify k a b d) n0 n1 n2 n3 n4 n5 n6 n7 n8 n9 = absurd (n7 k a b d refl)
none_wanted (GetMut k a) n0 n1 n2 n3 n4 n5 n6 n7 n8 n9 = absurd (n8 k a refl)
none_wanted (PeekMut k a) n0 n1 n2 n3 n4 n5 n6 n7 n8 n9 = absurd (n9 k a refl)
none_wanted (FrontMut x) n0 n1 n2 n3 n4 n5 n6 n7 n8 n9 = refl
none_wanted (BackMut x) n0 n1 n2 n3 n4 n5 n6 n7 n8 n9 = refl
