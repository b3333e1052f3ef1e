-- Lists by a function of the index.
use Prim.Native.Nat.{ℕ, zero, suc, ◌+◌, ◌≤◌, ◌<◌}
use native.Mathlib.Nat.{add-zero}
use native.Mathlib.Omega.{arith}
use mathlib.Core.Path.{◌≡◌, refl, ap, ap₂, sym, ◌∙◌}
use mathlib.Core.Logic.{◌≢◌}
use mathlib.Core.List.{List, [], ◌∷◌, ◌++◌}
use lib.ListN.{length, get_or, set}
use Rattle.simulation.specs.Meant.{listed}

module _ {A : Type 0} where
  pub listed_same : (f h : ℕ → A) (k n : ℕ) → ((j : ℕ) → k ≤ j → j < k + n → f j ≡ h j) → listed f k n ≡ listed h k n
  unfolding listed
  listed_same f h k zero e = refl
  listed_same f h k (suc n) e = ap₂ ◌∷◌ (e k (omega arith) (omega arith)) (listed_same f h (suc k) n (λ j a b. e j (omega arith) (omega arith)))

  pub listed_first : (f h : ℕ → A) (n : ℕ) → ((j : ℕ) → j < n → f j ≡ h j) → listed f 0 n ≡ listed h 0 n
  listed_first f h n e = listed_same f h 0 n (λ j a b. e j (omega arith))

  pub listed_more : (f : ℕ → A) (k n : ℕ) → listed f k (suc n) ≡ listed f k n ++ (f (k + n) ∷ [])
  unfolding listed
  listed_more f k zero = ap (λ j. f j ∷ []) (sym (add-zero k))
  listed_more f k (suc n) =
      let q : suc k + n ≡ k + suc n = omega arith in
      ap (λ (l : List A). f k ∷ l) (listed_more f (suc k) n ∙ ap (λ j. listed f (suc k) n ++ (f j ∷ [])) q)

  pub listed_shift : (f h : ℕ → A) (a b n : ℕ) → ((j : ℕ) → j < n → f (a + j) ≡ h (b + j)) → listed f a n ≡ listed h b n
  unfolding listed
  listed_shift f h a b zero e = refl
  listed_shift f h a b (suc n) e =
      ap₂ ◌∷◌ (ap f (sym (add-zero a)) ∙ e 0 (omega arith) ∙ ap h (add-zero b))
      (listed_shift f h (suc a) (suc b) n (λ j l.
      let p : suc a + j ≡ a + suc j = omega arith in
      let q : suc b + j ≡ b + suc j = omega arith in
      rw (p, q) (e (suc j) (omega arith))))

  pub length_listed : (f : ℕ → A) (k n : ℕ) → length (listed f k n) ≡ n
  unfolding listed
  length_listed f k zero = refl
  length_listed f k (suc n) = ap suc (length_listed f (suc k) n)

  pub get_d_listed : (f : ℕ → A) (k n i : ℕ) (d : A) → i < n → get_or (listed f k n) i d ≡ f (k + i)
  unfolding listed
  get_d_listed f k zero i d h = absurd (omega arith)
  get_d_listed f k (suc n) zero d h = ap f (sym (add-zero k))
  get_d_listed f k (suc n) (suc i) d h =
      let q : suc k + i ≡ k + suc i = omega arith in
      get_d_listed f (suc k) n i d (omega arith) ∙ ap f q

  pub set_listed : (f h : ℕ → A) (k n i : ℕ) (a : A) → i < n → h (k + i) ≡ a → ((j : ℕ) → j < k + n → j ≢ k + i → h j ≡ f j)
      → set (listed f k n) i a ≡ listed h k n
  unfolding listed
  set_listed f h k zero i a l e o = absurd (omega arith)
  set_listed f h k (suc n) zero a l e o =
      ap₂ ◌∷◌ (sym e ∙ ap h (add-zero k)) (listed_same f h (suc k) n (λ j x y. sym (o j (omega arith) (λ z. omega arith))))
  set_listed f h k (suc n) (suc i) a l e o =
      let q : suc k + i ≡ k + suc i = omega arith in
      ap₂ ◌∷◌ (sym (o k (omega arith) (λ z. omega arith))) (set_listed f h (suc k) n i a (omega arith) (ap h q ∙ e) (λ j y x. o j (omega arith) (λ z. x (omega arith))))
