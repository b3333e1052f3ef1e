-- The index stays right where entries, heads and the contents of keys stay as they are; and with a new entry.
use Prim.Native.Nat.{ℕ, ◌+◌, ◌/◌, ◌%◌, ◌^◌, ◌≤◌, ◌<◌}
use mathlib.Core.Path.{◌≡◌, ◌∙◌, refl, sym, ap}
use mathlib.Core.Bool.{Bool, true, false}
use mathlib.Core.List.{List, [], ◌∷◌}
use native.Mathlib.Omega.{arith}
use native.Mathlib.Numerals.{add-one}
use lib.ListN.{get_or}
use lib.Dec.{eqb, ltb}
use borrow.Author.Tests.{eqb-true, eqb-false, ltb-true, ltb-false}
use Rattle.meaning.specs.Basics.{if◌then◌otherwise◌}
use Rattle.machine.specs.Words.{kind_in, number_in, handle_in}
use Rattle.machine.specs.Layout.{entries_made, entries_granted, entry_place}
use Rattle.machine.specs.Texts.{text_of}
use Rattle.machine.specs.Tables.{owner_at, key_at, figure_content, content_of, bucket_of, head_place, link_at}
use Rattle.tables.proofs.IndexLaws.{bucket_less}
use Rattle.simulation.specs.Index.{last, lies, Indexed}
use Rattle.simulation.proofs.Index.{last_cong}

-- ---- contents
pub content_same : (program ts ts' ws ws' : List ℕ) (key : ℕ) → (kind_in key ≡ 2 → text_of program ts' (handle_in key) ≡ text_of program ts (handle_in key))
    → (kind_in key ≡ 6 → figure_content program ts' ws' (number_in key) ≡ figure_content program ts ws (number_in key)) → content_of program ts' ws' key ≡ content_of program ts ws key
unfolding content_of if◌then◌otherwise◌
content_same program ts ts' ws ws' key p q = go (eqb (kind_in key) 2) (eqb (kind_in key) 6) refl refl
  where
    go : (a b : Bool) → eqb (kind_in key) 2 ≡ a → eqb (kind_in key) 6 ≡ b
        → (if a then (λ _. text_of program ts' (handle_in key)) otherwise λ _. if b then (λ _. figure_content program ts' ws' (number_in key)) otherwise λ _. number_in key ∷ [])
        ≡ (if a then (λ _. text_of program ts (handle_in key)) otherwise λ _. if b then (λ _. figure_content program ts ws (number_in key)) otherwise λ _. number_in key ∷ [])
    go true b e f = p (eqb-true _ _ e)
    go false true e f = q (eqb-true _ _ f)
    go false false e f = refl

-- ---- agreement on the first n entries
pub record Agree (program g ts ts' ws ws' : List ℕ) (n : ℕ) : Type 0 where
  pub firsts : (k : ℕ) → k < n → get_or ws' (entry_place g k) 0 ≡ get_or ws (entry_place g k) 0
  pub keys : (k : ℕ) → k < n → get_or ws' (entry_place g k + 1) 0 ≡ get_or ws (entry_place g k + 1) 0
  pub contents : (k : ℕ) → k < n → content_of program ts' ws' (key_at g ws k) ≡ content_of program ts ws (key_at g ws k)

module _ (program g ts ts' ws ws' : List ℕ) (n : ℕ) (a : Agree program g ts ts' ws ws' n) where
  owner_agrees : (k : ℕ) → k < n → owner_at g ws' k ≡ owner_at g ws k
  owner_agrees k l = ap (λ (w : ℕ). w % 2 ^ 40) (a.firsts k l)

  pub bucket_agrees : (k : ℕ) → k < n → bucket_of program g ts' ws' (owner_at g ws' k) (key_at g ws' k) ≡ bucket_of program g ts ws (owner_at g ws k) (key_at g ws k)
  unfolding bucket_of
  bucket_agrees k l = rw (owner_agrees k l, a.keys k l, a.contents k l)

  pub lies_agree : (b m : ℕ) → m ≤ n → last (lies program g ts' ws' b) m ≡ last (lies program g ts ws b) m
  unfolding lies
  lies_agree b m l = last_cong _ _ m (λ k h. ap (λ (c : ℕ). eqb c b) (bucket_agrees k (omega arith)))

  pub link_agrees : (k : ℕ) → k < n → link_at g ws k ≡ last (lies program g ts ws (bucket_of program g ts ws (owner_at g ws k) (key_at g ws k))) k
      → link_at g ws' k ≡ last (lies program g ts' ws' (bucket_of program g ts' ws' (owner_at g ws' k) (key_at g ws' k))) k
  link_agrees k l h =
      rw (bucket_agrees k l)
      (ap (λ (w : ℕ). w / 2 ^ 40) (a.firsts k l) ∙ h ∙ sym (lies_agree (bucket_of program g ts ws (owner_at g ws k) (key_at g ws k)) k (omega arith)))

-- all entries and heads as they were
pub index_agrees : (program g ts ts' ws ws' : List ℕ) → Agree program g ts ts' ws ws' (get_or ws entries_made 0) → get_or ws' entries_made 0 ≡ get_or ws entries_made 0
    → ((b : ℕ) → b < entries_granted g → get_or ws' (head_place g b) 0 ≡ get_or ws (head_place g b) 0) → Indexed program g ts ws → Indexed program g ts' ws'
index_agrees program g ts ts' ws ws' a u h x = record {
  few = rw u x.few;
  begins = λ b l. rw u (h b l ∙ x.begins b l ∙ sym (lies_agree program g ts ts' ws ws' (get_or ws entries_made 0) a b (get_or ws entries_made 0) (omega arith)));
  links = λ k l. link_agrees program g ts ts' ws ws' (get_or ws entries_made 0) a k (rw u at l) (x.links k (rw u at l));
}

-- ---- one entry more
last_more : (f : ℕ → Bool) (n : ℕ) → last f (n + 1) ≡ (if f n then (λ _. n + 1) otherwise λ _. last f n)
unfolding last
last_more f n = rw (add-one n)

pub record Added (program g ts ws ws' : List ℕ) (t key : ℕ) : Type 0 where
  pub agree : Agree program g ts ts ws ws' (get_or ws entries_made 0)
  pub used : get_or ws' entries_made 0 ≡ get_or ws entries_made 0 + 1
  pub left : get_or ws entries_made 0 < entries_granted g
  pub owner : owner_at g ws' (get_or ws entries_made 0) ≡ t
  pub key_there : key_at g ws' (get_or ws entries_made 0) ≡ key
  pub content : content_of program ts ws' key ≡ content_of program ts ws key
  pub link : link_at g ws' (get_or ws entries_made 0) ≡ get_or ws (head_place g (bucket_of program g ts ws t key)) 0
  pub head : get_or ws' (head_place g (bucket_of program g ts ws t key)) 0 ≡ get_or ws entries_made 0 + 1
  pub heads : (b : ℕ) → b < entries_granted g → (b ≡ bucket_of program g ts ws t key → ⊥) → get_or ws' (head_place g b) 0 ≡ get_or ws (head_place g b) 0

module _ (program g ts ws ws' : List ℕ) (t key : ℕ) (a : Added program g ts ws ws' t key) (x : Indexed program g ts ws) where
  abbrev n : ℕ
  n = get_or ws entries_made 0

  abbrev b : ℕ
  b = bucket_of program g ts ws t key

  new_bucket : bucket_of program g ts ws' (owner_at g ws' n) (key_at g ws' n) ≡ b
  unfolding bucket_of
  new_bucket = rw (a.owner, a.key_there, a.content)

  old : (c m : ℕ) → m ≤ n → last (lies program g ts ws' c) m ≡ last (lies program g ts ws c) m
  old c m l = lies_agree program g ts ts ws ws' n a.agree c m l

  begin : (c : ℕ) → c < entries_granted g → get_or ws' (head_place g c) 0 ≡ last (lies program g ts ws' c) (n + 1)
  unfolding lies if◌then◌otherwise◌
  begin c l = go (eqb b c) refl ∙ sym (rw (last_more (lies program g ts ws' c) n, new_bucket))
    where
      go : (r : Bool) → eqb b c ≡ r → get_or ws' (head_place g c) 0 ≡ (if r then (λ _. n + 1) otherwise λ _. last (lies program g ts ws' c) n)
      go true e = rw (← eqb-true b c e) a.head
      go false e = a.heads c l (λ q. eqb-false b c e (sym q)) ∙ x.begins c l ∙ sym (old c n (omega arith))

  link : (k : ℕ) → k < n + 1 → link_at g ws' k ≡ last (lies program g ts ws' (bucket_of program g ts ws' (owner_at g ws' k) (key_at g ws' k))) k
  link k l = go (ltb k n) refl
    where
      go : (r : Bool) → ltb k n ≡ r → link_at g ws' k ≡ last (lies program g ts ws' (bucket_of program g ts ws' (owner_at g ws' k) (key_at g ws' k))) k
      go true e = link_agrees program g ts ts ws ws' n a.agree k (ltb-true k n e) (x.links k (ltb-true k n e))
      go false e =
          let m : n ≤ k = ltb-false k n e in
          let q : k ≡ n = omega arith in
          rw (q, new_bucket) (a.link ∙ x.begins b (bucket_less program g ts ws t key (omega (arith, a.left))) ∙ sym (old b n (omega arith)))

  pub index_added : Indexed program g ts ws'
  index_added = record {
    few = rw a.used (omega (arith, a.left));
    begins = λ c l. rw a.used (begin c l);
    links = λ k l. link k (rw a.used at l);
  }
