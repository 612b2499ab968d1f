-- Reading and writing links.
use Rattle.std.proofs.Common.{◌≡◌, ℕ, ◌<◌, ◌≢◌, List, length, get_or, set, Option, sym, refl, ap, ◌∙◌, subst, ⊎_elim}
use Rattle.std.proofs.lemmas.List.{length-map, map-set, get_or-map, set-get_or, get_or-set_same, get_or-set_other}
use Rattle.std.proofs.lemmas.Bool.{cases_eq}
use Rattle.cloud.specs.declared.node.Node.{Node}
use Rattle.cloud.specs.Links.{links, link, linked, states, Link, no_link, link_at, Kept, Keeps}

pub link_at_same : (ls : List Link) (i : ℕ) (y : Link) → i < length ls → link_at (set ls i y) i ≡ y
link_at_same ls i y h = get_or-set_same ls i y no_link h

pub link_at_other : (ls : List Link) (i n : ℕ) (y : Link) → n ≢ i → link_at (set ls i y) n ≡ link_at ls n
link_at_other ls i n y h = get_or-set_other ls i n y no_link h

-- what stands at n after a write at i, by cases
pub link_at_cases : (ls : List Link) (i : ℕ) (y : Link) (n : ℕ) → i < length ls → (P : Link → Type 0) → (n ≡ i → P y) → (n ≢ i → P (link_at ls n)) → P (link_at (set ls i y) n)
link_at_cases ls i y n h P a b =
    ⊎_elim
    (λ e. subst (λ m. P (link_at (set ls i y) m)) (sym e) (subst P (sym (link_at_same ls i y h)) (a e)))
    (λ ne. subst P (sym (link_at_other ls i n y ne)) (b ne))
    (cases_eq n i)

-- what the code reads and writes
pub link_at_links : {S : Type 0} (xs : List (Node S)) (i : ℕ) (d : Node S) → i < length xs → link_at (links xs) i ≡ link (get_or xs i d)
link_at_links xs i d h = get_or-map link xs i d no_link h

pub links_set : {S : Type 0} (xs : List (Node S)) (i : ℕ) (y : Node S) → links (set xs i y) ≡ set (links xs) i (link y)
links_set xs i y = map-set link xs i y

-- a write that leaves the state
pub states_kept : {S : Type 0} (xs : List (Node S)) (i : ℕ) (d y : Node S) → y.state ≡ (get_or xs i d).state → i < length xs → states (set xs i y) ≡ states xs
states_kept xs i d y e h =
    map-set (λ x. x.state) xs i y ∙ ap (set (states xs) i) (e ∙ sym (get_or-map (λ x. x.state) xs i d d.state h)) ∙ set-get_or (states xs) i d.state

-- a write that leaves the link
pub links_kept : {S : Type 0} (xs : List (Node S)) (i : ℕ) (d y : Node S) → link y ≡ link (get_or xs i d) → i < length xs → links (set xs i y) ≡ links xs
links_kept xs i d y e h = links_set xs i y ∙ ap (set (links xs) i) (e ∙ sym (link_at_links xs i d h)) ∙ set-get_or (links xs) i no_link

pub same_link : {a b : ℕ} {o p : Option ℕ} → a ≡ b → o ≡ p → ◌≡◌ {A = Link} (record { count = a; parent = o }) (record { count = b; parent = p })
same_link e f = λ j. record { count = e j; parent = f j }

pub length-links : {S : Type 0} (xs : List (Node S)) → length (links xs) ≡ length xs
length-links xs = length-map xs link

pub kept_refl : (ls : List Link) → Kept ls ls
kept_refl ls n h = (h, refl)

pub kept_trans : (ls ms ns : List Link) → Kept ls ms → Kept ms ns → Kept ls ns
kept_trans ls ms ns a b n h = let r = b n h in let q = a n r.0 in (q.0, r.1 ∙ q.1)

pub kept_set : (ls ms : List Link) (i c : ℕ) (b : Option ℕ) → i < length ls → ms ≡ set ls i (linked c b) → 0 < (link_at ls i).count → (0 < c → b ≡ (link_at ls i).parent) → Kept ls ms
kept_set ls ms i c b h e pos q =
    subst (Kept ls) (sym e) (λ n. link_at_cases ls i (linked c b) n h (λ x. 0 < x.count → (0 < (link_at ls n).count) × (x.parent ≡ (link_at ls n).parent)) (λ en l. subst (λ j. (0 < (link_at ls j).count) × (b ≡ (link_at ls j).parent)) (sym en) (pos, q l)) (λ _ l. (l, refl)))

pub keeps_refl : {S : Type 0} (xs : List (Node S)) → Keeps xs xs
keeps_refl xs = record { same_states = refl; same_parents = kept_refl (links xs) }

pub keeps_trans : {S : Type 0} (xs ys zs : List (Node S)) → Keeps xs ys → Keeps ys zs → Keeps xs zs
keeps_trans xs ys zs a b = record { same_states = b.same_states ∙ a.same_states; same_parents = kept_trans (links xs) (links ys) (links zs) a.same_parents b.same_parents }
