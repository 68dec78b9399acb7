-- State: the rank of each node, from the nodes in the order of their ranks.
use Rattle.std.specs.Prelude.{ℕ, List, [], ◌∷◌, suc, replicate, slice_set}

-- these ranks, after some nodes are given theirs one after another, from a first rank on
abbrev pub ranks_from : List ℕ → ℕ → List ℕ → List ℕ
ranks_from ranks first [] = ranks
ranks_from ranks first (node ∷ rest) = ranks_from (slice_set ranks node first) (suc first) rest

-- the ranks of so many nodes, 0 at those that are not listed
abbrev pub ranks_listed : ℕ → List ℕ → List ℕ
ranks_listed nodes by_rank = ranks_from (replicate nodes 0) 0 by_rank
