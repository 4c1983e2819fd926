-- A geometry that is taken piece by piece is the one that the pieces mean.
use Rattle.std.proofs.Common.{◌≡◌, ℕ, List, [], ◌∷◌, ◌++◌, length, map, take, replicate, append_assoc, append-nil, refl, sym, ap, ◌∙◌, subst, arith, Option, Some, None, Bool, true, false, inl, inr}
use Rattle.std.specs.Prelude.{◌||◌, nat_lt, filter_map}
use Rattle.std.specs.List.{list_any, flat_map}
use Rattle.std.specs.Str.{bytes_eq}
use Rattle.std.proofs.lemmas.Bool.{cases_Bool, cases_lt}
use Rattle.std.proofs.lemmas.Bool.Decides.{nat_tests}
use Rattle.std.proofs.lemmas.List.{map-append, length-take-le, take_all}
use Rattle.std.proofs.lemmas.Grind.{flat_map-append}
use Rattle.sop_fixed.specs.declared.vec3.Vec3.{Vec3}
use Rattle.sop_model.specs.declared.geo.Geo.{Geo}
use Rattle.sop_model.specs.declared.geo.Row.{Row}
use Rattle.sop_model.specs.Limits.{most_groups}
use Rattle.sop_model.specs.Names.{are_distinct}
use Rattle.sop_model.specs.Merge.{first_names}
use Rattle.geo_text.specs.declared.taker.Attributes.{Attributes}
use Rattle.geo_text.specs.ObjStatements.{Place}
use Rattle.geo_text.specs.ObjTaking.{made_of, begun, group_taken, flag_more, point_row, point_taken}
use Rattle.geo_text.specs.ObjMeaning.{Piece, PointPiece, TexturePiece, NormalPiece, ShapePiece, GroupsPiece, NoPiece, Shaped, shapes_under, group_names, is_among, prim_of, vertex_of, place_of}
use Rattle.geo_text.specs.ObjRun.{Marked, noted_at, noted_name, noted, Taking, marked_by, with_prim, prim_behind, pieces_taken}
use Rattle.geo_text.proofs.ObjMaking.{group_made}
use Rattle.geo_text.proofs.ObjGrouping.{Names, found, position_found, among_append, unmarked_name, none_among, some_among, marked_name, has_room, added, names_into, added_distinct, are_settled, settled_after, settled_same, first_among, first_into, among_last, same_name, or_parts, or_true}

module _ (has : Attributes) (textures normals : List Vec3) where
  -- the geometry of these points and primitives, with these groups
  abbrev pub made : List Row → Names → List Shaped → Geo
  made points names shapes = made_of has points names (map (prim_of has textures normals names) shapes)

  -- no primitive is in this group
  abbrev lacks : List ℕ → List Shaped → Bool
  lacks x shapes = list_any (λ s. is_among s.groups x) shapes

  flagged : (names : Names) (x : List ℕ) (shapes : List Shaped) → lacks x shapes ≡ false
      → map flag_more (map (prim_of has textures normals names) shapes) ≡ map (prim_of has textures normals (names ++ x ∷ [])) shapes
  flagged names x [] h = refl
  flagged names x (s ∷ shapes) h =
      let parts = or_parts (is_among s.groups x) (lacks x shapes) h in
      let flags : map (is_among s.groups) names ++ false ∷ [] ≡ map (is_among s.groups) (names ++ x ∷ []) =
      ap (λ b. map (is_among s.groups) names ++ b ∷ []) (sym parts.0) ∙ sym (map-append (is_among s.groups) names (x ∷ [])) in
      ap (λ f. record { closed = s.closed; row = record { values = []; flags = f }; corners = (prim_of has textures normals names s).corners } ∷ map flag_more (map (prim_of has textures normals names) shapes)) flags
      ∙ ap (λ l. prim_of has textures normals (names ++ x ∷ []) s ∷ l) (flagged names x shapes parts.1)

  group_more : (points : List Row) (names : Names) (x : List ℕ) (shapes : List Shaped) → lacks x shapes ≡ false → group_taken x (made points names shapes) ≡ made points (names ++ x ∷ []) shapes
  group_more points names x shapes h =
      sym (group_made has points names x (map (prim_of has textures normals names) shapes)) ∙ ap (made_of has points (names ++ x ∷ [])) (flagged names x shapes h)

  -- ---- groups that are noted
  -- a name that isn't there, where there is room, is in no primitive
  abbrev Complete : Names → List Shaped → Type 0
  Complete names shapes = (x : List ℕ) → is_among names x ≡ false → has_room names ≡ true → lacks x shapes ≡ false

  complete_added : (x : List ℕ) (names : Names) (shapes : List Shaped) → Complete names shapes → Complete (added x names) shapes
  complete_added x names shapes complete =
      elim (cases_Bool (is_among names x)) [
        | inl there ↦ subst (λ n. Complete n shapes) (sym (old there)) complete
        | inr new ↦ elim (cases_Bool (has_room names)) [
          | inl room ↦ subst (λ n. Complete n shapes) (sym (longer new room))
              (λ y h more. complete y (or_parts (is_among names y) (bytes_eq y x) (sym (among_last names x y) ∙ h)).0 room)
          | inr full ↦ subst (λ n. Complete n shapes) (sym (stays new full)) complete
        ]
      ]
    where
      old : is_among names x ≡ true → added x names ≡ names
      old h = rw h refl

      longer : is_among names x ≡ false → has_room names ≡ true → added x names ≡ names ++ x ∷ []
      longer n h = rw (n, h) refl

      stays : is_among names x ≡ false → has_room names ≡ false → added x names ≡ names
      stays n h = rw (n, h) refl

  abbrev pub marked : List Row → Names → List Shaped → Names → Marked
  marked points names shapes done = record { geo = made points names shapes; flags = map (is_among done) names }

  noted_found : (points : List Row) (names : Names) (shapes : List Shaped) (done : Names) (x : List ℕ) (o : Option ℕ) → found x names ≡ o → are_distinct names ≡ true → Complete names shapes
      → noted_at o x (marked points names shapes done) ≡ marked points (added x names) shapes (done ++ x ∷ [])
  noted_found points names shapes done x (Some i) at distinct complete =
      ap (λ (f : List Bool). record { geo = made points names shapes; flags = f }) (marked_name names done x i distinct at)
      ∙ rw (some_among names x i at) refl
  noted_found points names shapes done x None at distinct complete =
      let new = none_among names x at in
      let flags = unmarked_name names done x new in
      elim (cases_Bool (has_room names)) [
        | inl room ↦ rw (room, new) (
            ap (λ (g : Geo). record { geo = g; flags = map (is_among done) names ++ true ∷ [] }) (group_more points names x shapes (complete x new room))
            ∙ ap (λ (f : List Bool). record { geo = made points (names ++ x ∷ []) shapes; flags = f })
            (ap (λ l. l ++ true ∷ []) flags ∙ ap (λ b. map (is_among (done ++ x ∷ [])) names ++ b ∷ []) (sym (last_marked done x)) ∙ sym (map-append (is_among (done ++ x ∷ [])) names (x ∷ [])))
            )
        | inr full ↦ rw (full, new) (ap (λ (f : List Bool). record { geo = made points names shapes; flags = f }) flags)
      ]
    where
      last_marked : (done : Names) (x : List ℕ) → is_among (done ++ x ∷ []) x ≡ true
      last_marked done x = among_last done x x ∙ ap (λ b. is_among done x || b) (same_name x) ∙ or_true (is_among done x)

  noted_one : (points : List Row) (names : Names) (shapes : List Shaped) (done : Names) (x : List ℕ) → are_distinct names ≡ true → Complete names shapes
      → noted_name x (marked points names shapes done) ≡ marked points (added x names) shapes (done ++ x ∷ [])
  noted_one points names shapes done x distinct complete =
      ap (λ o. noted_at o x (marked points names shapes done)) (position_found x names) ∙ noted_found points names shapes done x (found x names) refl distinct complete

  pub noted_all : (points : List Row) (names : Names) (shapes : List Shaped) (done more : Names) → are_distinct names ≡ true → Complete names shapes
      → noted more (marked points names shapes done) ≡ marked points (names_into names more) shapes (done ++ more)
  noted_all points names shapes done [] distinct complete = ap (λ d. marked points names shapes d) (sym (append-nil done))
  noted_all points names shapes done (x ∷ more) distinct complete =
      ap (noted more) (noted_one points names shapes done x distinct complete)
      ∙ noted_all points (added x names) shapes (done ++ x ∷ []) more (added_distinct x names distinct) (complete_added x names shapes complete)
      ∙ ap (λ d. marked points (names_into (added x names) more) shapes d) (append_assoc done (x ∷ []) more)

  -- ---- the names that some primitives use
  into_distinct : (names more : Names) → are_distinct names ≡ true → are_distinct (names_into names more) ≡ true
  into_distinct names [] h = h
  into_distinct names (x ∷ more) h = into_distinct (added x names) more (added_distinct x names h)

  pub used_distinct : (shapes : List Shaped) → are_distinct (group_names shapes) ≡ true
  used_distinct shapes = subst (λ n. are_distinct n ≡ true) (first_into [] (flat_map (λ s. s.groups) shapes)) (into_distinct [] (flat_map (λ s. s.groups) shapes) refl)

  lacks_used : (x : List ℕ) (shapes : List Shaped) → lacks x shapes ≡ is_among (flat_map (λ s. s.groups) shapes) x
  lacks_used x [] = refl
  lacks_used x (s ∷ shapes) = ap (λ b. is_among s.groups x || b) (lacks_used x shapes) ∙ sym (among_append s.groups (flat_map (λ s. s.groups) shapes) x)

  short_names : (k : ℕ) (names : Names) → nat_lt (length (take k names)) k ≡ true → take k names ≡ names
  short_names k names h =
      elim (cases_lt (length names) k) [
        | inl short ↦ take_all k names (omega (arith, short))
        | inr long ↦ (let e = length-take-le k names long in absurd (grind (arith, nat_tests)))
      ]

  used_complete : (shapes : List Shaped) → Complete (group_names shapes) shapes
  used_complete shapes = λ x new room.
      let used = flat_map (λ s. s.groups) shapes in
      let all : group_names shapes ≡ first_names used = short_names most_groups (first_names used) room in
      lacks_used x shapes ∙ sym (first_among used x) ∙ sym (ap (λ n. is_among n x) all) ∙ new

  used_more : (shapes : List Shaped) (s : Shaped) → names_into (group_names shapes) s.groups ≡ group_names (shapes ++ s ∷ [])
  used_more shapes s =
      let used = flat_map (λ s. s.groups) shapes in
      first_into used s.groups
      ∙ ap (λ l. take most_groups (first_names (used ++ l))) (sym (append-nil s.groups))
      ∙ ap (λ l. take most_groups (first_names l)) (sym (flat_map-append (λ (s : Shaped). s.groups) shapes (s ∷ [])))

  -- ---- what is taken holds some points and primitives
  abbrev rows_of : List Place → List Row
  rows_of places = map (λ p. point_row has p.at p.colour) places

  abbrev FlagsHold : Option (List Bool) → Names → Names → Type 0
  FlagsHold None groups names = Unit {0}
  FlagsHold (Some flags) groups names = (flags ≡ map (is_among groups) names) × (are_settled names groups ≡ true)

  pub record Holds (places : List Place) (shapes : List Shaped) (groups : Names) (t : Taking) : Type 0 where
    pub geo : t.geo ≡ made (rows_of places) (group_names shapes) shapes
    pub following : t.groups ≡ groups
    pub flags : FlagsHold t.flags groups (group_names shapes)

  no_flags : (names : Names) → replicate (length names) false ≡ map (is_among []) names
  no_flags [] = refl
  no_flags (x ∷ names) = ap (λ l. false ∷ l) (no_flags names)

  -- the flags of a primitive behind the others, and the groups that it needs
  marked_shape : (places : List Place) (shapes : List Shaped) (s : Shaped) (flags : Option (List Bool)) → FlagsHold flags s.groups (group_names shapes)
      → marked_by flags s.groups (made (rows_of places) (group_names shapes) shapes) ≡ marked (rows_of places) (group_names (shapes ++ s ∷ [])) shapes s.groups
  marked_shape places shapes s None h =
      let names = group_names shapes in
      ap (λ (f : List Bool). noted s.groups (record { geo = made (rows_of places) names shapes; flags = f })) (no_flags names)
      ∙ noted_all (rows_of places) names shapes [] s.groups (used_distinct shapes) (used_complete shapes)
      ∙ ap (λ n. marked (rows_of places) n shapes s.groups) (used_more shapes s)
  marked_shape places shapes s (Some flags) h =
      let names = group_names shapes in
      let same : names ≡ group_names (shapes ++ s ∷ []) = sym (settled_same names s.groups h.1) ∙ used_more shapes s in
      ap (λ (f : List Bool). record { geo = made (rows_of places) names shapes; flags = f }) h.0 ∙ ap (λ n. marked (rows_of places) n shapes s.groups) same

  shape_held : (places : List Place) (shapes : List Shaped) (s : Shaped) (t : Taking) → Holds places shapes s.groups t
      → Holds places (shapes ++ s ∷ []) s.groups (prim_behind has s.closed (map (vertex_of textures normals) s.corners) t)
  shape_held places shapes s t h =
      let names = group_names (shapes ++ s ∷ []) in
      let vertices = map (vertex_of textures normals) s.corners in
      let m : marked_by t.flags t.groups t.geo ≡ marked (rows_of places) names shapes s.groups =
      ap (λ g. marked_by t.flags g t.geo) h.following ∙ ap (marked_by t.flags s.groups) h.geo ∙ marked_shape places shapes s t.flags h.flags in
      let whole : prim_behind has s.closed vertices t ≡ with_prim has s.closed vertices s.groups (marked (rows_of places) names shapes s.groups) =
      ap (λ g. with_prim has s.closed vertices g (marked_by t.flags t.groups t.geo)) h.following ∙ ap (with_prim has s.closed vertices s.groups) m in
      let prims : map (prim_of has textures normals names) shapes ++ prim_of has textures normals names s ∷ [] ≡ map (prim_of has textures normals names) (shapes ++ s ∷ []) =
      sym (map-append (prim_of has textures normals names) shapes (s ∷ [])) in
      subst (Holds places (shapes ++ s ∷ []) s.groups) (sym whole) (record {
        geo = ap (made_of has (rows_of places) names) prims;
        following = refl;
        flags = (refl, subst (λ n. are_settled n s.groups ≡ true) (used_more shapes s) (settled_after (group_names shapes) s.groups));
      })

  point_held : (places : List Place) (shapes : List Shaped) (groups : Names) (p : Place) (t : Taking) → Holds places shapes groups t
      → Holds (places ++ p ∷ []) shapes groups (record t { geo = point_taken has p.at p.colour t.geo })
  point_held places shapes groups p t h =
      let names = group_names shapes in
      let rows : rows_of places ++ point_row has p.at p.colour ∷ [] ≡ rows_of (places ++ p ∷ []) = sym (map-append (λ (p : Place). point_row has p.at p.colour) places (p ∷ [])) in
      record {
        geo = ap (point_taken has p.at p.colour) h.geo ∙ ap (λ r. made r names shapes) rows;
        following = h.following;
        flags = h.flags;
      }

  -- ---- all pieces
  pub pieces_held : (pieces : List Piece) (places : List Place) (shapes : List Shaped) (groups : Names) (t : Taking) → Holds places shapes groups t
      → (pieces_taken has textures normals pieces t).geo ≡ made (rows_of (places ++ filter_map place_of pieces)) (group_names (shapes ++ shapes_under groups pieces)) (shapes ++ shapes_under groups pieces)
  pieces_held [] places shapes groups t h =
      h.geo ∙ ap (λ l. made (rows_of l) (group_names shapes) shapes) (sym (append-nil places))
      ∙ ap (λ l. made (rows_of (places ++ [])) (group_names l) l) (sym (append-nil shapes))
  pieces_held (PointPiece p ∷ pieces) places shapes groups t h =
      pieces_held pieces (places ++ p ∷ []) shapes groups (record t { geo = point_taken has p.at p.colour t.geo }) (point_held places shapes groups p t h)
      ∙ ap (λ l. made (rows_of l) (group_names (shapes ++ shapes_under groups pieces)) (shapes ++ shapes_under groups pieces)) (append_assoc places (p ∷ []) (filter_map place_of pieces))
  pieces_held (TexturePiece v ∷ pieces) places shapes groups t h = pieces_held pieces places shapes groups t h
  pieces_held (NormalPiece v ∷ pieces) places shapes groups t h = pieces_held pieces places shapes groups t h
  pieces_held (ShapePiece closed corners ∷ pieces) places shapes groups t h =
      let s : Shaped = record { closed = closed; corners = corners; groups = groups } in
      pieces_held pieces places (shapes ++ s ∷ []) groups (prim_behind has closed (map (vertex_of textures normals) corners) t) (shape_held places shapes s t h)
      ∙ ap (λ l. made (rows_of (places ++ filter_map place_of pieces)) (group_names l) l) (append_assoc shapes (s ∷ []) (shapes_under groups pieces))
  pieces_held (GroupsPiece names ∷ pieces) places shapes groups t h =
      pieces_held pieces places shapes names (record t { groups = names; flags = None }) (record { geo = h.geo; following = refl; flags = tt })
  pieces_held (NoPiece ∷ pieces) places shapes groups t h = pieces_held pieces places shapes groups t h

  pub all_held : (pieces : List Piece) → (pieces_taken has textures normals pieces (record { geo = begun has; groups = []; flags = None })).geo
      ≡ made (rows_of (filter_map place_of pieces)) (group_names (shapes_under [] pieces)) (shapes_under [] pieces)
  all_held pieces = pieces_held pieces [] [] [] (record { geo = begun has; groups = []; flags = None }) (record { geo = refl; following = refl; flags = tt })
