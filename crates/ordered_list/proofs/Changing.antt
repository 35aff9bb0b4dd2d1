-- When entering and striking are granted, and what a list shows then.
use Rattle.std.proofs.Common.{◌≡◌, ℕ, ◌+◌, ◌-◌, eqb, is_ok, Some, None, Ok, Err, sym, ap, ◌∙◌}
use mathlib.Core.Path.{fun_ext}
use Rattle.std.specs.Map.{update}
use Rattle.std.proofs.lemmas.Bool.{cond-true, cond-false, eq-eqb, ne_eqb}
use Rattle.ordered_list.specs.declared.entry.EntryRefusal.{EntryRefusal}
use Rattle.ordered_list.specs.declared.entry.EntryRefusal.TheVariants.{Present, Full}
use Rattle.ordered_list.specs.declared.entry.StrikeRefusal.{StrikeRefusal}
use Rattle.ordered_list.specs.Listings.{Listing, entry_to, entry_answer, entered, strike_answer, struck}

module _ {V : Type 0} where
  listing_path : (m n : Listing V) → ((q : ℕ) → m.shown q ≡ n.shown q) → m.count ≡ n.count → m.places ≡ n.places → m ≡ n
  listing_path m n shown count places = λ i. record { shown = fun_ext shown i; count = count i; places = places i }

  module _ (l : Listing V) (rank : ℕ) where
    pub refused_present : (v : V) → Some v ≡ l.shown rank → Err Present ≡ entry_answer l rank
    refused_present v some = ap (λ o. entry_to o l.count l.places) some

    pub refused_full : None ≡ l.shown rank → l.count ≡ l.places → Err Full ≡ entry_answer l rank
    refused_full none full =
        sym (cond-true (eqb l.count l.places) (Err Full) (Ok tt) (eq-eqb l.count l.places full))
        ∙ ap (λ o. entry_to o l.count l.places) none

    pub entry_granted : None ≡ l.shown rank → (l.count ≡ l.places → ⊥) → Ok tt ≡ entry_answer l rank
    entry_granted none free =
        sym (cond-false (eqb l.count l.places) (Err Full) (Ok tt) (ne_eqb l.count l.places free))
        ∙ ap (λ o. entry_to o l.count l.places) none

    pub not_entered : (e : EntryRefusal) (v : V) → Err e ≡ entry_answer l rank → l ≡ entered l rank v
    not_entered e v refused = sym (cond-false (is_ok (entry_answer l rank)) _ l (ap is_ok (sym refused)))

    pub is_entered : (m : Listing V) (v : V) → Ok tt ≡ entry_answer l rank → ((q : ℕ) → m.shown q ≡ update eqb l.shown rank (Some v) q) → m.count ≡ l.count + 1 → m.places ≡ l.places → m ≡ entered l rank v
    is_entered m v granted shown count places =
        listing_path m (record { shown = update eqb l.shown rank (Some v); count = l.count + 1; places = l.places }) shown count places
        ∙ sym (cond-true (is_ok (entry_answer l rank)) _ l (ap is_ok (sym granted)))

    pub not_struck : (e : StrikeRefusal) → Err e ≡ strike_answer l rank → l ≡ struck l rank
    not_struck e refused = sym (cond-false (is_ok (strike_answer l rank)) _ l (ap is_ok (sym refused)))

    pub is_struck : (m : Listing V) (v : V) → Ok v ≡ strike_answer l rank → ((q : ℕ) → m.shown q ≡ update eqb l.shown rank None q) → m.count ≡ l.count - 1 → m.places ≡ l.places → m ≡ struck l rank
    is_struck m v granted shown count places =
        listing_path m (record { shown = update eqb l.shown rank None; count = l.count - 1; places = l.places }) shown count places
        ∙ sym (cond-true (is_ok (strike_answer l rank)) _ l (ap is_ok (sym granted)))
