-- Items with commas between them, or none, as a list: what each comma and its item read.
use Rattle.std.proofs.Common.{◌≡◌, ℕ, true, Ok, refl, inl, inr, arith}
use Rattle.grammar.specs.Firsts.{firsts}
use Rattle.grammar.specs.Grammars.{seq, tok, many, Tree, TreeAt}
use Rattle.grammar.specs.Parsers.{Read, parse_at}
use Rattle.grammar.specs.TokenClasses.{among}
use Rattle.syntax.specs.Nodes.{Makes, appended, linked, none, listed}
use Rattle.syntax.specs.Syntax.{G, rule, maybe}
use Rattle.reading.specs.declared.readers.Reader.{Reader}
use Rattle.reading.specs.States.{stream_of, Reads, Takes, Builds}
use Rattle.reading.specs.Steps.{front_of, taken, token_made}
use Rattle.reading.proofs.Branches.{on_first, left_tree}
use Rattle.reading.proofs.Loops.{Item, Listing, items, lists_on}
use Rattle.reading.proofs.Sequences.{begin, first, only, past_token, pass, pair}

-- a comma and an item
abbrev pub next_gram : G → G
next_gram g = seq (tok 37) g

abbrev pub some_gram : G → G
some_gram g = seq g (many (next_gram g))

unfoldable pub next_made : (d : ℕ) (g : G) → Makes (TreeAt rule d g) → Makes (TreeAt rule d (next_gram g))
unfolding Tree
next_made d g act z n = act z.1 n

unfoldable pub list_made : (d : ℕ) (g : G) → Makes (TreeAt rule d g) → Makes (TreeAt rule d (maybe (some_gram g)))
unfolding Tree
list_made d g act (inl x) c = listed (λ z n. act z.1 n) (linked none (act x.0 c)) x.1 c
list_made d g act (inr x) c = none

pub next_item : (g : G) → Item (next_gram g)
next_item g = record { some = refl; begun = refl }

-- from one item on to another
abbrev pub Runs : (d : ℕ) (g : G) → Makes (TreeAt rule d g) → Reader → ℕ → Reader → ℕ → Type 0
Runs d g act m i n j = (R : Read (TreeAt rule d (maybe (some_gram g)))) (a : Reader) → Listing (list_made d g act) R a m d (next_gram g) (appended (next_made d g act) a.count) i → Listing (list_made d g act) R a n d (next_gram g) (appended (next_made d g act) a.count) j

-- the first item
pub list_starts : (d : ℕ) (g : G) (act : Makes (TreeAt rule d g)) {a m : Reader} {i p : ℕ} → among (firsts (some_gram g)) (front_of (stream_of a)) ≡ true → Builds act (parse_at rule d g (stream_of a)) a (Ok (i, p)) m → Listing (list_made d g act) (parse_at rule d (maybe (some_gram g)) (stream_of a)) a m d (next_gram g) (appended (next_made d g act) a.count) i
unfolding Tree list_made next_made items pair left_tree
list_starts d g act {a} begins r =
    let s = first (on_first (begin d (maybe (some_gram g)) a) begins) r.reads in
    let top = r.last.0 in
    let more = r.last.1 in
    lists_on (linked none (act s.tree a.count)) s.more (λ xs. refl) s.number refl (omega arith) more

-- a comma and an item are read
pub next_read : (d : ℕ) (g : G) (act : Makes (TreeAt rule d g)) {a m b : Reader} {j q i p : ℕ} → Takes (token_made 37) (taken 37 (stream_of a)) a (Ok (j, q)) m → Reads act (parse_at rule d g (stream_of m)) m (Ok (i, p)) b → Reads (next_made d g act) (parse_at rule d (next_gram g) (stream_of a)) a (Ok (i, p)) b
unfolding Tree next_made pair
next_read d g act {a} t r =
    let s = past_token (begin d (next_gram g) a) t in
    let u = only s.more r in
    pass u.whole (λ k. record { nodes = (act u.tree a.count).nodes; number = u.number k; place = u.place k })
