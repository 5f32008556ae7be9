-- The part of a picture that is always the same: its style, and the heads of its arrows.
use Rattle.std.specs.Prelude.{ℕ, List, [], ◌∷◌, ◌++◌, codes}
use Rattle.raw_picture.specs.Forms.{in_turn}

-- how things look on a light ground
unfoldable pub colours : List ℕ
colours =
    in_turn (
    codes "<style>\n"
    ∷ codes "text{font:11px Menlo,Consolas,\"DejaVu Sans Mono\",\"Liberation Mono\",monospace;fill:#1b2530}\n"
    ∷ codes ".page{fill:#ffffff} .cell{fill:#f3f5f7} .link{fill:#e6eaee}\n"
    ∷ codes ".box{fill:#ffffff;stroke:#788390;stroke-width:1}\n"
    ∷ codes ".waits{fill:#fff3cf;stroke:#8a7330}\n"
    ∷ codes ".trapped{fill:#f6dcec;stroke:#98306f;stroke-width:3}\n"
    ∷ codes ".limit{fill:#d8ebfa;stroke:#22689f;stroke-width:2;stroke-dasharray:10 4}\n"
    ∷ codes ".empty{fill:#f3f5f7;stroke-dasharray:2 3}\n"
    ∷ codes ".on{stroke:#c04300;stroke-width:3;stroke-dasharray:none}\n"
    ∷ codes ".name{font-weight:bold;font-size:13px} .mark{font-weight:bold} .soft{fill:#5c6773}\n"
    ∷ codes ".head{font-weight:bold;font-size:22px} .say{font-size:12px}\n"
    ∷ codes ".end{text-anchor:end} .mid{text-anchor:middle}\n"
    ∷ codes ".n1,.n2,.thin,.wait,.path{fill:none;stroke-width:2}\n"
    ∷ codes ".n1{stroke:#0063a3;marker-end:url(#a1)}\n"
    ∷ codes ".n2{stroke:#00735a;stroke-dasharray:5 3;marker-end:url(#a2)}\n"
    ∷ codes ".thin{stroke:#5c6773;stroke-width:1;marker-end:url(#a3)}\n"
    ∷ codes ".wait{stroke:#c04300;marker-end:url(#a4)}\n"
    ∷ codes ".path{stroke:#f7cdb4;stroke-width:9;stroke-linejoin:round}\n"
    ∷ codes ".f1,.t1{fill:#0063a3} .f2,.t2{fill:#00735a} .f3{fill:#5c6773} .f4,.tag{fill:#c04300}\n"
    ∷ codes ".t1,.t2{font-weight:bold} .tagged{fill:#ffffff}\n"
    ∷ [])

-- how they look on a dark ground
unfoldable pub dark_colours : List ℕ
dark_colours =
    in_turn (
    codes "@media (prefers-color-scheme:dark){\n"
    ∷ codes "text{fill:#e3e8ee}\n"
    ∷ codes ".page{fill:#12161b} .cell{fill:#1a2027} .link{fill:#262e38}\n"
    ∷ codes ".box{fill:#12161b;stroke:#6d7986}\n"
    ∷ codes ".waits{fill:#383011;stroke:#b79a46}\n"
    ∷ codes ".trapped{fill:#421c35;stroke:#e58cc2}\n"
    ∷ codes ".limit{fill:#12324c;stroke:#6db3ea}\n"
    ∷ codes ".empty{fill:#1a2027} .on{stroke:#ff8b45} .soft{fill:#9aa6b2}\n"
    ∷ codes ".n1{stroke:#6db9f2} .n2{stroke:#52cba3} .thin{stroke:#9aa6b2}\n"
    ∷ codes ".wait{stroke:#ff8b45} .path{stroke:#6b3a1c}\n"
    ∷ codes ".f1,.t1{fill:#6db9f2} .f2,.t2{fill:#52cba3} .f3{fill:#9aa6b2} .f4,.tag{fill:#ff8b45}\n"
    ∷ codes ".tagged{fill:#12161b}\n"
    ∷ codes "}\n"
    ∷ codes "</style>\n"
    ∷ [])

-- the heads of the arrows of network 1, of network 2, of other waits, of told waits
unfoldable pub markers : List ℕ
markers =
    in_turn (
    codes "<defs>\n"
    ∷ codes "<marker id=\"a1\" markerUnits=\"userSpaceOnUse\" markerWidth=\"10\" markerHeight=\"10\" refX=\"2\" refY=\"5\" orient=\"auto\"><path class=\"f1\" d=\"M1 1L9 5L1 9z\"/></marker>\n"
    ∷ codes "<marker id=\"a2\" markerUnits=\"userSpaceOnUse\" markerWidth=\"10\" markerHeight=\"10\" refX=\"2\" refY=\"5\" orient=\"auto\"><path class=\"f2\" d=\"M1 1L9 5L1 9z\"/></marker>\n"
    ∷ codes "<marker id=\"a3\" markerUnits=\"userSpaceOnUse\" markerWidth=\"10\" markerHeight=\"10\" refX=\"2\" refY=\"5\" orient=\"auto\"><path class=\"f3\" d=\"M1 2L9 5L1 8z\"/></marker>\n"
    ∷ codes "<marker id=\"a4\" markerUnits=\"userSpaceOnUse\" markerWidth=\"10\" markerHeight=\"10\" refX=\"2\" refY=\"5\" orient=\"auto\"><path class=\"f4\" d=\"M1 0L9 5L1 10z\"/></marker>\n"
    ∷ codes "</defs>\n"
    ∷ [])

-- the style and the heads of the arrows
unfoldable pub style : List ℕ
style = colours ++ dark_colours ++ markers
