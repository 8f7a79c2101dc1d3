-- A change of one edge, with the pairs that the closure gains and loses by it.
use Rattle.std.specs.Prelude.{◌≡◌, ◌+◌, ◌*◌, ◌≤◌, ℕ, Bool, true, false, cond, refl}
use Rattle.std.specs.Coded.{Coded, code_by, coded×, coded_ℕ, coded_bool}
use Rattle.rbac_sets.specs.Sets.{Bytes, Pairs, contains, insert, remove, len, coded_set, coded_name, coded_pair}
use Rattle.role_order.specs.Order.{IsAcyclic, IsGained, seniors, juniors}

-- the edges of an order, and how many more edges and pairs can be added without allocation
pub record Order : Type 0 where
  pub edges : Pairs
  pub edge_room : ℕ
  pub pair_room : ℕ

abbrev pub coded_order : Coded Order
coded_order =
    code_by (Pairs × (ℕ × ℕ)) (coded× (coded_set coded_pair) (coded× coded_ℕ coded_ℕ)) (λ o. (o.edges, (o.edge_room, o.pair_room)))
    (λ p. record { edges = p.0; edge_room = p.1.0; pair_room = p.1.1 }) (λ _. refl)

-- an edge to add or remove, the pairs that the order gains and loses by it, and how many pairs were judged to find them
pub record Plan : Type 0 where
  pub adds : Bool
  pub asc : Bytes
  pub desc : Bytes
  pub puts : Pairs
  pub takes : Pairs
  pub judged : ℕ

abbrev pub coded_plan : Coded Plan
coded_plan =
    code_by (Bool × (Bytes × (Bytes × (Pairs × (Pairs × ℕ)))))
    (coded× coded_bool (coded× coded_name (coded× coded_name (coded× (coded_set coded_pair) (coded× (coded_set coded_pair) coded_ℕ)))))
    (λ p. (p.adds, (p.asc, (p.desc, (p.puts, (p.takes, p.judged))))))
    (λ t. record { adds = t.0; asc = t.1.0; desc = t.1.1.0; puts = t.1.1.1.0; takes = t.1.1.1.1.0; judged = t.1.1.1.1.1 })
    (λ _. refl)

-- the edges after the plan's change
abbrev pub changed : Pairs → Plan → Pairs
changed edges plan = cond plan.adds (insert edges (plan.asc, plan.desc)) (remove edges (plan.asc, plan.desc))

-- the plan is right for these edges: an edge that it adds is new, its change makes no cycle, and its pairs are those
-- that the order gains and loses
pub record Fits (edges : Pairs) (plan : Plan) : Type 0 where
  pub absent : plan.adds ≡ true → contains edges (plan.asc, plan.desc) ≡ false
  pub acyclic : IsAcyclic (changed edges plan)
  pub puts : IsGained edges (changed edges plan) plan.puts
  pub takes : IsGained (changed edges plan) edges plan.takes

-- how many pairs of asc or a senior of it and desc or a junior of it there are
abbrev pub pairs_at : Pairs → Bytes → Bytes → ℕ
pairs_at edges asc desc = (1 + len (seniors edges asc)) * (1 + len (juniors edges desc))

-- the plan is one to add the edge, or to remove it
pub record IsOrderPlanOf (edges : Pairs) (adds : Bool) (asc desc : Bytes) (plan : Plan) : Type 0 where
  pub same_kind : plan.adds ≡ adds
  pub same_asc : plan.asc ≡ asc
  pub same_desc : plan.desc ≡ desc
  pub fits : Fits edges plan
  pub judged : plan.judged ≡ pairs_at edges asc desc

-- there is room for what the plan adds
pub record OrderHasRoom (order : Order) (plan : Plan) : Type 0 where
  pub edge : plan.adds ≡ true → 1 ≤ order.edge_room
  pub pairs : len plan.puts ≤ order.pair_room
