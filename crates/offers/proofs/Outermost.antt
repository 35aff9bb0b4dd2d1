-- The outermost price bounds each picked price, and is one of them.
use Rattle.std.proofs.Common.{◌≡◌, Bool, true, false, cond, List, [], ◌∷◌, ◌++◌, ℤ, Some, None, fold, Option, sym, refl, ◌∙◌, append_assoc, append-nil, arith}
use lib.Signed.{lt_z, ≤ℤ_refl}
use Rattle.std.specs.List.{ContainsAt}
use Rattle.std.proofs.ByRecursion.{All-push, All-weaker, has_push, has_append_left}
use Rattle.std.proofs.lemmas.Int.{ints}
use Rattle.measures.specs.declared.price.Price.{Price}
use Rattle.sheet.specs.declared.lines.Offer.{Offer}
use Rattle.sheet.specs.declared.lines.Direction.{Direction}
use Rattle.sheet.specs.declared.lines.Direction.TheVariants.{Up, Down}
use Rattle.offers.specs.Forming.{outer, outer_of, farther}
use Rattle.offers.specs.Laws.{Inside, Outermost, OutermostPricesAreOffered}

clash : {P : Type 0} (b : Bool) → b ≡ true → b ≡ false → P
clash b t f = let z : true ≡ false = sym t ∙ f in absurd (grind arith)

inside_itself : (d : Direction) (z : ℤ) → Inside d z z
inside_itself Up z = ≤ℤ_refl z
inside_itself Down z = ≤ℤ_refl z

-- the outer of two prices is one of the two, and neither is farther out
record Outer (d : Direction) (a b r : Price) : Type 0 where
  old : Inside d a.kop r.kop
  new : Inside d b.kop r.kop

up_outer : (a b : Price) (t : Bool) → lt_z a.kop b.kop ≡ t → Outer Up a b (cond t b a)
up_outer a b true e = record { old = grind (arith, ints); new = ≤ℤ_refl b.kop }
up_outer a b false e = record { old = ≤ℤ_refl a.kop; new = grind (arith, ints) }

down_outer : (a b : Price) (t : Bool) → lt_z b.kop a.kop ≡ t → Outer Down a b (cond t b a)
down_outer a b true e = record { old = grind (arith, ints); new = ≤ℤ_refl b.kop }
down_outer a b false e = record { old = ≤ℤ_refl a.kop; new = grind (arith, ints) }

is_outer : (d : Direction) (a b : Price) → Outer d a b (outer d a b)
is_outer Up a b = up_outer a b (lt_z a.kop b.kop) refl
is_outer Down a b = down_outer a b (lt_z b.kop a.kop) refl

inside_trans : (d : Direction) (x y z : ℤ) → Inside d x y → Inside d y z → Inside d x z
inside_trans Up x y z p q = omega (arith, ints)
inside_trans Down x y z p q = omega (arith, ints)

module _ (d : Direction) (pick : Offer → Bool) where
  Offered : List Offer → Price → Type 0
  Offered os p = (o : Offer) × (ContainsAt os o × (pick o ≡ true) × (o.price ≡ p))

  kept : (ps : List Offer) (o : Offer) (p : Price) → Offered ps p → Offered (ps ++ o ∷ []) p
  unfolding Offered
  kept ps o p t = (t.0, (has_append_left ps (o ∷ []) t.0 t.1.0, t.1.1, t.1.2))

  fresh : (ps : List Offer) (o : Offer) → pick o ≡ true → Offered (ps ++ o ∷ []) o.price
  unfolding Offered
  fresh ps o e = (o, (has_push ps o, e, refl))

  either : (ps : List Offer) (o : Offer) (p : Price) (t : Bool) → pick o ≡ true → Offered ps p → Offered (ps ++ o ∷ []) (cond t o.price p)
  either ps o p true e h = fresh ps o e
  either ps o p false e h = kept ps o p h

outer_offered : (d : Direction) (pick : Offer → Bool) (ps : List Offer) (o : Offer) (p : Price) → pick o ≡ true → Offered d pick ps p → Offered d pick (ps ++ o ∷ []) (outer d p o.price)
outer_offered Up pick ps o p e h = either Up pick ps o p (lt_z p.kop o.price.kop) e h
outer_offered Down pick ps o p e h = either Down pick ps o p (lt_z o.price.kop p.kop) e h

module _ (d : Direction) (pick : Offer → Bool) where
  push : (ps : List Offer) (o : Offer) (a : Option Price) → Outermost d pick ps a → (b : Bool) → pick o ≡ b → Outermost d pick (ps ++ o ∷ []) (cond b (outer_of d a o.price) a)
  unfolding Offered
  push ps o None t false e = All-push (λ x. pick x ≡ false) ps o t e
  push ps o None t true e = (
    All-push (λ x. pick x ≡ true → Inside d x.price.kop o.price.kop) ps o
        (All-weaker (λ x. pick x ≡ false) (λ x. pick x ≡ true → Inside d x.price.kop o.price.kop) (λ x f g. clash (pick x) g f) ps t)
        (λ _. inside_itself d o.price.kop),
    fresh d pick ps o e,
  )
  push ps o (Some p) t false e = (
    All-push (λ x. pick x ≡ true → Inside d x.price.kop p.kop) ps o t.0 (λ g. clash (pick o) g e),
    kept d pick ps o p t.1,
  )
  push ps o (Some p) t true e =
      let top = outer d p o.price in
      let out = is_outer d p o.price in (
        All-push (λ x. pick x ≡ true → Inside d x.price.kop top.kop) ps o
            (All-weaker (λ x. pick x ≡ true → Inside d x.price.kop p.kop) (λ x. pick x ≡ true → Inside d x.price.kop top.kop) (λ x f g. inside_trans d _ _ _ (f g) out.old) ps t.0)
            (λ _. out.new),
        outer_offered d pick ps o p e t.1,
      )

  onward : (ps os : List Offer) (a : Option Price) → Outermost d pick ps a → Outermost d pick (ps ++ os) (fold (farther d pick) a os)
  onward ps [] a t = rw append-nil t
  onward ps (o ∷ os) a t = rw (← append_assoc ps (o ∷ []) os) (onward (ps ++ o ∷ []) os (farther d pick a o) (push ps o a t (pick o) refl))

pub outermost_is : OutermostPricesAreOffered
outermost_is d pick os = onward d pick [] os None tt
