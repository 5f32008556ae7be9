-- The page of the viewer, made by tools/viewer from the files of viewer/.
use Rattle.std.specs.Prelude.{ℕ, List, codes, ◌++◌}

unfoldable pub head_1 : List ℕ
head_1 = codes "<!DOCTYPE html>\n<html lang=\"en\">\n<head>\n<meta charset=\"utf-8\">\n<meta name=\"viewport\" content=\"width=device-width, initial-scale=1\">\n<title>rawgrid explore</title>\n<meta http-equiv=\"Content-Security-Policy\" content=\"default-src 'none'; style-src 'sha256-rhu7C8qXXmkta2Xg0yVGKQ6gnS4gobFM+rfkdHDuIBQ='; script-src 'sha256-2VGnMy5o3xhV0ULBAgTYg1xyCKjo+gURz5jMmoTu0IY='\">\n<style>\n:root{\ncolor-scheme: light dark;\n--ink: #1b2530;--soft: #566270;--page: #fff;--cell: #f3f5f7;--link: #e6eaee;--edge: #788390;--rule: #d3d9df;\n--fired: #d3efdc;--fired-edge: #1b6e3c;--stalled: #eae1f8;--stalled-edge: #6b4ba1;\n--starved: #fff3cf;--starved-edge: #8a7330;--blocked: #fbdcc0;--blocked-edge: #9a5316;\n--trapped: #f6dcec;--trapped-edge: #98306f;--limit: #d8ebfa;--limit-edge: #22689f;\n--net1: #0063a3;--net2: #00735a;--on: #c04300;--path: #f7cdb4;--chosen: #1b2530;--now: #fff0a8;--way: #8a1f8a;--critical: #a8123c;--heat: #4fb57c;\n--mono: Menlo,Consolas,\"DejaVu Sans Mono\",\"Liberation Mono\",monospace;\n}\n@media (prefers-color-scheme: dark){\n:root{\n--ink: #e3e8ee;--soft: #9aa6b2;--page: #12161b;--cell: #1a2027;--link: #262e38;--edge: #6d7986;--rule: #36414d;\n--fired: #12402a;--fired-edge: #5fd393;--stalled: #33264d;--stalled-edge: #b99af0;\n--starved: #383011;--starved-edge: #c9ab50;--blocked: #472a10;--blocked-edge: #eb9d55;\n--trapped: #421c35;--trapped-edge: #e58cc2;--limit: #12324c;--limit-edge: #6db3ea;\n--net1: #6db9f2;--net2: #52cba3;--on: #ff8b45;--path: #6b3a1c;--chosen: #fff;--now: #3a340c;--way: #f08cf0;--critical: #ff8fa3;--heat: #1a6a42;\n}\n}\n*{box-sizing: border-box;}\nhtml{font-size: 15px;}\nhtml.larger{font-size: 21px;}\nbody{margin: 0;background: var(--page);color: var(--ink);font: 1rem/1.4 system-ui,\"DejaVu Sans\",sans-serif;}\nsvg text,code,.num,#code,#registers,#words,#panel td,option,select,input,.value,.story td{font-family: var(--mono);}\nheader{padding: 6px 16px 0;display: flex;flex-wrap: wrap;gap: 0 16px;align-items: baseline;}\nh1{font-size: 1.45rem;margin: 0;}\nh1.deadlock,h1.stuck{color: var(--on);}\nh1.done{color: var(--fired-edge);}\nh1.trapped{color: var(--trapped-edge);}\nh1.limit{color: var(--limit-edge);}\nh2{font-size: 1.07rem;margin: 0 0 4px;}\nh3{font-size: 0.87rem;margin: 14px 0 3px;color: var(--soft);}\np{margin: 2px 0;}\n.soft{color: var(--soft);}\n.num{text-align: right;}\n.command{white-space: nowrap;}\nbutton,select,input[type=\"number\"],input[type=\"text\"]{\nfont: inherit;font-size: 0.93rem;color: inherit;background: var(--cell);border: 1px solid var(--edge);border-radius: 4px;padding: 2px 9px;min-height: 28px;\n}\nbutton:hover{background: var(--link);}\nbutton[aria-pressed=\"true\"]{background: var(--now);border-color: var(--ink);}\ninput[type=\"number\"]{width: 6em;}\nbutton.plain{border: 0;background: none;padding: 0;min-height: 24px;font-size: inherit;text-decoration: underline;text-align: left;font-weight: bold;cursor: pointer;}\nbutton.value{white-space: nowrap;border: 0;background: none;padding: 0;min-height: 0;font-size: inherit;font-weight: inherit;color: inherit;cursor: pointer;text-decoration: underline dotted;text-underline-offset: 2px;}\nbutton.value:hover{background: var(--now);text-decoration: underline;}\n:focus-visible{outline: 3px solid var(--net1);outline-offset: 1px;}\n[hidden]{display: none !important;}\n#views{margin-left: auto;display: flex;gap: 4px;align-self: center;}\n#views button{padding: 0 8px;min-height: 24px;font-size: 0.87rem;}\n#bar{display: flex;flex-wrap: wrap;gap: 4px 6px;align-items: center;padding: 5px 16px;position: sticky;top: 0;background: var(--page);z-index: 4;border-bottom: 1px solid var(--rule);}\n#bar input[type=\"range\"]{flex: 1 1 160px;min-width: 120px;}\n#say{flex: 1 1 auto;min-height: 1.4em;}\n#search{display: flex;flex-wrap: wrap;gap: 4px 6px;align-items: center;}\n#answer{font-size: 0.87rem;}\nmain{display: flex;flex-direction: column;}\n#grid{overflow: auto;padding: 4px 8px;}\n#time{order: 3;padding: 4px 16px 6px;border-top: 1px solid var(--rule);}\naside{padding: 8px 16px;border-top: 1px solid var(--rule);}\n.no-grid #grid,.no-time #time,.no-panel aside{display: none;}\n@media (min-width: 900px){\n#say{flex: 0 0 auto;}\n#search{flex: 1 1 27rem;flex-wrap: nowrap;justify-content: flex-end;min-width: 0;}\n#search > *{flex: none;}\n#answer{order: -1;flex: 0 1 auto;min-width: 0;overflow: hidden;white-space: nowrap;text-overflow: ellipsis;}\n#facts{flex: 1 1 0;min-width: 0;overflow: hidden;white-space: nowrap;text-overflow: ellipsis;}\nbody{display: flex;flex-direction: column;height: 100vh;overflow: hidden;}\nmain{flex: 1;min-height: 0;display: grid;grid-template: minmax(0,1fr) auto / minmax(0,1fr) minmax(25rem,29%);}\naside{grid-area: 1 / 2 / 3 / 3;overflow: auto;border-top: 0;border-left: 1px solid var(--rule);}\n#grid{grid-area: 1 / 1;}\n#time{grid-area: 2 / 1;display: flex;flex-direction: column;min-height: 0;}\n.long main{grid-template-rows: minmax(0,1.1fr) minmax(0,1fr);}\n.many:not(.long,.no-grid) #rows{max-height: 8.5rem;}\n.long #tl,.no-grid #tl{flex: 1;}\n.no-grid main{grid-template-rows: 0 minmax(0,1fr);}\n.no-time main{grid-template-rows: minmax(0,1fr) 0;}\n.no-panel main{grid-template-columns: minmax(0,1fr) 0;}\n.long #rows,.no-grid #rows{max-height: none;}\n}\n@media (min-width: 900px){\n.larger #facts,.larger .of-cycle{display: none;}\n.larger main{grid-template-columns: minmax(0,1fr) minmax(17rem,30%);}\n.larger body:not(.long,.no-grid) #rows{max-height: 8rem;}\n.larger .no-panel main{grid-template-columns: minmax(0,1fr) 0;}\n}\n@media (max-width: 899px){\nhtml.larger{font-size: 15px;}\nheader,#bar,aside,#time{padding-left: 8px;padding-right: 8px;}\n.wide,#views{display: none;}\n#bar{position: static;}\n}\n#grid > svg{display: block;margin: 0 auto;}\n#signs{position: sticky;left: 0;display: flex;flex-wrap: wrap;justify-content: center;align-items: center;gap: 0 11px;font-size: 0.8rem;margin: 0 0 2px;}\n#signs > span{white-space: nowrap;}\n#signs > .of-shares{white-space: normal;text-align: center;}\n#signs svg{vertical-align: -1px;}\n#signs select{width: 11.5em;}\n#signs button,#signs select{padding: 0 6px;min-width: 26px;min-height: 24px;margin-left: 4px;font-size: 0.8rem;}\n.of-shares,.shares .of-cycle{display: none;}\n.shares .of-shares{display: inline;}\n#scale{display: inline-block;width: 90px;height: 11px;border: 1px solid var(--edge);background: linear-gradient(to right,var(--page),var(--heat));vertical-align: -1px;}\nsvg text{font-size: 11px;fill: var(--ink);pointer-events: none;}\n.cell{fill: var(--cell);}\n.link{fill: var(--link);}\n.box{cursor: pointer;}\n.box rect{fill: var(--page);stroke: var(--edge);}\n.fired rect{fill: var(--fired);stroke: var(--fired-edge);stroke-width: 2.5;}\n.stalled rect{fill: var(--stalled);stroke: var(--stalled-edge);stroke-width: 2;}\n.starved rect{fill: var(--starved);stroke: var(--starved-edge);}\n.blocked rect{fill: var(--blocked);stroke: var(--blocked-edge);stroke-dasharray: 7 3;}\n.trapped rect{fill: var(--trapped);stroke: var(--trapped-edge);stroke-width: 3;}\n.limit rect{fill: var(--limit);stroke: var(--limit-edge);stroke-width: 2;stroke-dasharray: 10 4;}\n.empty rect{fill: var(--cell);stroke-dasharray: 2 3;}\n.box.on rect{stroke: var(--on);stroke-width: 4;stroke-dasharray: none;}\n.box .ring{fill: none;stroke: none;}\n.box.chosen .ring{stroke: var(--chosen);stroke-width: 2.5;stroke-dasharray: none;}\n.box:focus{outline: none;}\n.box:focus-visible .ring{stroke: var(--net1);stroke-width: 4;}\n.name,.mark{font-weight: bold;}\n.end{text-anchor: end;}\n.middle{text-anchor: middle;}\n.box .number{fill: var(--soft);}\n.box .code{font-size: 10px;}\n.large .pc{display: none;}\n.sign{fill: var(--edge);stroke: none;}\n.box .sign{stroke: none;stroke-dasharray: none;fill: var(--edge);}\n.fired .sign{fill: var(--fired-edge);}\n.stalled .sign{fill: var(--stalled-edge);}\n.starved .sign{fill: var(--starved-edge);}\n.blocked .sign{fill: var(--blocked-edge);}\n.large .sign,.medium .sign{display: none;}\n.large.dense .box .code{font-size: 9.5px;}\n.medium .name,.medium .mark{font-size: 20px;}\n.medium .pc{font-size: 17px;}\n.medium.dense .name,.medium.dense .mark{font-size: 17px;}\n.medium .wire text{font-size: 14px;}\n.medium .code,.medium .number,.medium .tag,.medium.dense .pc{display: none;}\n.medium .of-way,.tiny .of-way{display: inline;}\n.medium .count{font-size: 17px;}\n.medium.dense .count{font-size: 13px;}\n.tiny .name{font-size: var(--tiny);}\n.tiny .mark,.tiny .code,.tiny .number,.tiny .pc,.tiny .count,.tiny .tag:not(.of-way),.tiny .wire text{display: none;}\n.medium .wait.on{stroke-width: 6;}\n.tiny .wait.on{stroke-width: 9;}\n.tiny .wire.holds path{stroke-width: 3.5;}\n.tiny .wire.moves path{stroke-width: 6;}\n.wire path{fill: none;stroke: var(--edge);stroke-width: 1;opacity: 0.45;}\n.wire.net2 path{stroke-dasharray: 5 3;}\n.wire.holds path{opacity: 1;stroke-width: 2;stroke: var(--net1);}\n.wire.holds.net2 path{stroke: var(--net2);}\n.wire.moves path{stroke-width: 3.5;}\n.wire text{fill: var(--net1);font-weight: bold;font-size: 10px;paint-order: stroke;stroke: var(--page);stroke-width: 4px;}\n.wire.net2 text{fill: var(--net2);}\n.bead{fill: var(--net1);stroke: var(--page);}\n.net2 .bead{fill: var(--net2);}\n.bead.taken{fill: var(--page);stroke: var(--net1);stroke-width: 2;stroke-dasharray: 2 1;}\n.net2 .bead.taken{stroke: var(--net2);}\n.wait{fill: none;stroke: var(--soft);stroke-width: 1.5;stroke-dasharray: 2 2;}\n.wait.on{stroke: var(--on);stroke-width: 3.5;stroke-dasharray: none;}\n.path{fill: none;stroke: var(--path);stroke-width: 13;stroke-linejoin: round;}\n.way path,.critical path{fill: none;stroke: var(--way);stroke-width: 11;opacity: 0.55;stroke-linecap: round;}\n.critical path{stroke: var(--critical);}\n.critical .turn{fill: none;stroke: var(--critical);}\n.head1{fill: var(--net1);}\n.head2{fill: var(--net2);}\n.head3{fill: var(--soft);}\n.head4{fill: var(--on);}\n.tag rect{fill: var(--on);}\n.way .tag rect{fill: var(--way);}\n.critical .tag rect{fill: var(--critical);}\n.tag text{fill: var(--page);font-size: 10px;font-weight: bold;}\n#tl{display: flex;flex-direction: column;min-height: 0;border: 1px solid var(--rule);}\n#strip,#scale-of-time{position: relative;flex: none;overflow: hidden;border-bottom: 1px solid var(--rule);}\n#strip,#ruler,#canvas{cursor: crosshair;touch-action: pan-y;}\n#rows{position: relative;overflow: hidden auto;max-height: 13rem;min-height: 40px;flex: 1;}\ncanvas{display: block;}\n#hover{position: fixed;z-index: 5;pointer-events: none;white-space: nowrap;font-size: 0.87rem;padding: 1px 6px;color: var(--ink);background: var(--page);border: 1px solid var(--edge);border-radius: 3px;}\n#hover:empty{display: none;}\n#now,#now-overview,#span,#span-ruler,#window,#states{position: absolute;top: 0;pointer-events: none;}\n#now{border: solid var(--on);border-width: 0 2px;min-width: 4px;}\n#now-overview{bottom: 0;background: var(--on);}\n#span,#span-ruler{border: solid var(--net1);border-width: 0 1px;background: color-mix(in srgb,var(--net1) 22%,transparent);bottom: 0;}\n#window{bottom: 0;border: 2px solid var(--ink);border-radius: 3px;background: color-mix(in srgb,var(--net1) 14%,transparent);}\n#states{bottom: 0;height: 5px;top: auto;background: var(--net1);border: 1px solid var(--page);}\n#flag{position: absolute;top: 0;background: var(--on);color: var(--page);font: bold 0.73rem/1.2rem var(--mono);padding: 0 4px;border-radius: 0 3px 3px 0;pointer-events: none;}\n.key{display: inline-block;width: 24px;height: 16px;border: 1px solid var(--rule);margin-right: 4px;vertical-align: -2px;}\n.row{display: flex;flex-wrap: wrap;gap: 4px 10px;align-items: center;margin-bottom: 4px;}\n#time .row{font-size: 0.87rem;gap: 4px 7px;}\n#time button,#time select{min-height: 24px;padding: 0 8px;margin-right: 2px;font-size: 0.87rem;}\n.story{border: 2px solid var(--on);border-radius: 6px;padding: 6px 10px;margin-bottom: 10px;}\n.story.done{border-color: var(--fired-edge);}\n.story.part{border-color: var(--edge);}\n.story ol{margin: 4px 0;padding-left: 26px;max-height: 300px;overflow: auto;}\n.kind{font-weight: bold;border: 1px solid var(--edge);border-radius: 4px;padding: 0 6px;}\n.kind.fired{background: var(--fired);}\n.kind.stalled{background: var(--stalled);}\n.kind.starved{background: var(--starved);}\n.kind.blocked{background: var(--blocked);}\n.kind.trapped{background: var(--trapped);}\n.kind.limit{background: var(--limit);}\n#pick{max-width: 14em;}\ntable{border-collapse: collapse;width: 100%;}\ntd,th{padding: 1px 3px;white-space: nowrap;text-align: left;font-weight: normal;vertical-align: baseline;font-size: 0.8rem;}\nth{color: var(--soft);}\nth.num{text-align: right;}\n.scroll{max-height: 15.5rem;overflow: auto;border: 1px solid var(--rule);position: relative;}\n#code td{white-space: pre;font-size: 0.87rem;}\ntd.wrap{white-space: normal;}\ntr.now{background: var(--now);font-weight: bold;}\ntr.now td{font-weight: bold;}\ntr.next td:first-child{font-weight: bold;}\n#registers{display: grid;grid-template-columns: repeat(auto-fill,minmax(9.2rem,1fr));gap: 1px 8px;font-size: 0.87rem;}\n#registers .rest{grid-column: 1 / -1;}\n#registers .now{background: var(--now);font-weight: bold;grid-column: span 2;padding-left: 3px;}\nsummary{margin-top: 8px;cursor: pointer;}\ndetails > div{overflow: auto;}\n.story .row{margin: 4px 0;gap: 4px 6px;}\n.story td,.story th{padding: 0 3px;font-size: 0.77rem;}\n.story{overflow-x: auto;}\n.story td button.plain{min-height: 1.4em;}\n.story button{min-height: 24px;}\n@media print{\n:root{color-scheme: light;}\nbody{display: block;height: auto;overflow: visible;}\nmain{display: block;}\n#bar > :not(#say),#views,#time .row label,#time .row button,#signs button,#signs label,#pick,label,details:not([open]){display: none;}\n#grid,aside,#rows,.scroll{overflow: visible;max-height: none;height: auto;}\n#grid > svg{max-width: 100%;height: auto;}\n#tl,canvas{max-width: 100%;}\ncanvas{height: auto !important;}\n#now,#now-overview,#span,#span-ruler,#window,#states,#flag{display: none !important;}\naside{border: 0;break-before: auto;}\n.story,#panel,#time{break-inside: avoid;}\n*{print-color-adjust: exact;}\n}\n</style>\n</head>\n<body>\n<header><h1 id=\"head\"></h1><span id=\"sum\"></span><span id=\"facts\" class=\"soft\"></span>\n<span id=\"views\" role=\"group\" aria-label=\"parts of the page\"><button type=\"button\" id=\"see-grid\" aria-pressed=\"true\">grid</button><button type=\"button\" id=\"see-time\" aria-pressed=\"true\">timeline</button><button type=\"button\" id=\"see-panel\" aria-pressed=\"true\">panel</button><button type=\"button\" id=\"large\" aria-pressed=\"false\" title=\"larger type, for a projector\">larger type</button></span></header>\n<div id=\"bar\" role=\"toolbar\" aria-label=\"cycles\">\n<button type=\"button\" id=\"first\" aria-label=\"first cycle\" title=\"first cycle (Home)\">|&lt;</button>\n<button type=\"button\" id=\"back\" aria-label=\"one cycle back\" title=\"one cycle back (left arrow)\">&lt;</button>\n<button type=\"button\" id=\"play\" title=\"play or pause (space)\">play</button>\n<button type=\"button\" id=\"forth\" aria-label=\"one cycle forth\" title=\"one cycle forth (right arrow)\">&gt;</button>\n<button type=\"button\" id=\"last\" aria-label=\"last cycle\" title=\"last cycle (End)\">&gt;|</button>\n"

unfoldable pub head_2 : List ℕ
head_2 = codes "<input type=\"range\" id=\"slide\" aria-label=\"cycle\" min=\"0\" value=\"0\" step=\"1\">\n<label>cycle <input type=\"number\" id=\"cycle\"></label>\n<label class=\"wide\">speed <select id=\"speed\"><option value=\"1\">1/s</option><option value=\"4\" selected>4/s</option><option value=\"12\">12/s</option><option value=\"40\">40/s</option></select></label>\n<button type=\"button\" id=\"before\" title=\"the last cycle in which the chosen processor fires (p)\">previous firing</button>\n<button type=\"button\" id=\"after\" title=\"the next cycle in which the chosen processor fires (n)\">next firing</button>\n<div id=\"say\" aria-live=\"polite\"></div>\n<form id=\"search\" role=\"search\"><label for=\"find\">find</label> <input id=\"find\" type=\"text\" size=\"14\" list=\"finds\" autocomplete=\"off\" spellcheck=\"false\" placeholder=\"$5, wire 8, 0x31\" title=\"what to find: how is said at the end of the panel (/)\"><datalist id=\"finds\"><option>waits</option><option>misses</option><option>sends</option><option>takes</option><option>stops</option><option>stores</option><option>$5</option><option>$5 = 7</option><option>@48</option><option>pc 3</option><option>wire 8</option><option>wire 8 = 7</option><option>0x31</option></datalist>\n<button type=\"button\" id=\"find-before\" title=\"the last one before this cycle (shift and enter)\">before</button><button type=\"submit\" id=\"find-after\" title=\"the next one behind this cycle (enter)\">after</button> <span id=\"answer\" role=\"status\"></span><button type=\"button\" id=\"return\" hidden>back</button></form>\n</div>\n<main>\n<section id=\"grid\" aria-label=\"the grid\"><p id=\"signs\" class=\"soft\">\n<label>show <select id=\"mode\"><option value=\"cycle\">this cycle</option><option value=\"shares\">shares of cycles</option></select></label>\n<span class=\"of-cycle\"><svg width=\"46\" height=\"12\" aria-hidden=\"true\"><g class=\"wire net1 holds\"><path d=\"M2 6H44\"/><rect class=\"bead\" x=\"26\" y=\"1.5\" width=\"9\" height=\"9\"/></g></svg> network 1</span>\n<span class=\"of-cycle\"><svg width=\"46\" height=\"12\" aria-hidden=\"true\"><g class=\"wire net2 holds\"><path d=\"M2 6H44\"/><rect class=\"bead\" x=\"26\" y=\"1.5\" width=\"9\" height=\"9\"/></g></svg> network 2</span>\n<span class=\"of-cycle\"><svg width=\"46\" height=\"12\" aria-hidden=\"true\"><g class=\"wire net1 holds moves\"><path d=\"M2 6H44\"/><rect class=\"bead\" x=\"8\" y=\"1.5\" width=\"9\" height=\"9\"/><rect class=\"bead taken\" x=\"32\" y=\"1.5\" width=\"9\" height=\"9\"/></g></svg> sent, taken</span>\n<span class=\"of-cycle\"><svg width=\"46\" height=\"12\" aria-hidden=\"true\"><path class=\"wait\" d=\"M2 6H38\"/><path class=\"head3\" d=\"M36 2L44 6L36 10z\"/></svg> waits for</span>\n<span class=\"of-cycle\"><svg width=\"46\" height=\"12\" aria-hidden=\"true\"><path class=\"wait on\" d=\"M2 6H36\"/><path class=\"head4\" d=\"M34 0L46 6L34 12z\"/></svg> for ever</span>\n<span class=\"of-shares\">0% <span id=\"scale\"></span> 100% of <span id=\"which\"></span></span>\n<span><button type=\"button\" id=\"less\" aria-label=\"smaller grid\" title=\"smaller grid\">-</button><button type=\"button\" id=\"more\" aria-label=\"larger grid\" title=\"larger grid\">+</button></span></p></section>\n<section id=\"time\" aria-label=\"timeline\">\n<div class=\"row\"><span><span class=\"key\" data-kind=\"1\"></span>fired</span><span><span class=\"key\" data-kind=\"2\"></span>stalled</span><span><span class=\"key\" data-kind=\"3\"></span>starved</span><span><span class=\"key\" data-kind=\"4\"></span>blocked</span><span><span class=\"key\" data-kind=\"5\"></span>stopped</span>\n<label class=\"wide\">rows <select id=\"which-rows\"></select></label><label class=\"wide\"><input type=\"checkbox\" id=\"fit\"> all in sight</label>\n<span><button type=\"button\" id=\"in\" aria-label=\"zoom into the timeline\" title=\"zoom into the timeline (+)\">+</button><button type=\"button\" id=\"out\" aria-label=\"zoom out of the timeline\" title=\"zoom out of the timeline (-)\">-</button><button type=\"button\" id=\"all\" title=\"show all cycles (0)\">all</button><button type=\"button\" id=\"count-shown\" title=\"choose the cycles that are shown here, and count what is done in them\">count these</button></span></div><div id=\"hover\"></div>\n<div id=\"tl\"><div id=\"strip\"><canvas id=\"overview\" aria-hidden=\"true\"></canvas><div id=\"states\"></div><div id=\"window\"></div><div id=\"now-overview\"></div></div>\n<div id=\"scale-of-time\"><canvas id=\"ruler\" aria-hidden=\"true\"></canvas><div id=\"span-ruler\"></div><div id=\"flag\"></div></div>\n<div id=\"rows\" tabindex=\"0\" role=\"region\" aria-label=\"rows of the timeline\"><canvas id=\"canvas\" role=\"img\"></canvas><div id=\"span\"></div><div id=\"now\"></div></div></div>\n</section>\n<aside aria-label=\"the outcome, and the chosen processor\">\n<div id=\"story\"></div>\n<div id=\"way\" class=\"story part\" hidden></div>\n<div id=\"range\" class=\"story part\" hidden></div>\n<div class=\"row\"><select id=\"pick\" aria-label=\"processor\"></select> <label><input type=\"checkbox\" id=\"decimal\"> decimal</label></div>\n<div id=\"panel\"></div>\n<details id=\"words-of-cycle\"><summary>this cycle in words</summary><div></div></details>\n<details id=\"path\"><summary>the critical path, also drawn</summary><div></div></details>\n<details id=\"counts\"><summary id=\"counts-head\"></summary><div></div></details>\n<details><summary>how to read this page, search, and keys</summary>\n<p>Shown is the beginning of a cycle, and what each processor does in it: all that can step do so at once. A value that is sent in a cycle can be taken in the next one.</p>\n<p><b>fires</b>: it takes a step. <b>starved</b>: it waits for a value. <b>blocked</b>: it waits for room on a wire. <b>stalled</b>: it pays for a cache miss. Else it is stopped: halted, trapped, at its limit, spent (a source) or full (a sink).</p>\n<p>Each square on a wire is a value, the front one at the arrow. Marked lines are of this cycle; \"becomes\" is what it writes.</p>\n<p><b>Values lead on.</b> Press one in a register or in memory: the cycle in which it was written is shown. Press one on a wire: its way is shown, from where it was made to where it was used.</p>\n<p><b>Many cycles.</b> Draw with the mouse over the timeline to choose cycles, or press \"count these\": their counts are shown, and the grid can show the shares of them. Draw over the strip above it to look at these. With the control key the wheel zooms, with shift it moves.</p>\n<p><b>Find</b>, for the chosen processor: <code>$5</code> or <code>r2</code>, a write to a register; <code>@48</code>, a store to or a load from an address in hexadecimal digits; <code>pc 3</code>, also with a label; <code>waits</code>, <code>starved</code>, <code>blocked</code>, <code>stalled</code>, <code>stops</code>, <code>fires</code>, <code>misses</code>, <code>loads</code>, <code>stores</code>, <code>sends</code>, <code>takes</code>. For all: <code>wire 8</code>, what is sent on it; <code>49</code> or <code>0x31</code>, a value wherever it is written. <code>$5 = 7</code>, <code>wire 8 = 7</code>: this value there.</p>\n<p><b>Keys.</b> left, right: one cycle; with shift ten. Home, End: first, last. Space: play, pause. Escape: let go of the chosen cycles and of the word.</p>\n<p><label><input type=\"checkbox\" id=\"keys\" checked> one-key commands</label>: n, p: next, previous cycle in which the chosen processor fires. Comma, full stop: previous, next processor. Brackets: the chosen cycles begin, end here. +, -, 0: zoom the timeline. Slash: find.</p></details>\n<noscript>This page draws the run by its scripts, which are turned off.</noscript>\n</aside>\n</main>\n<script type=\"text/plain\" id=\"trace\">\n"

unfoldable pub tail_1 : List ℕ
tail_1 = codes "</script>\n<script>\n\"use strict\";\nconst AWAY={N:[0,-1],E:[1,0],S:[0,1],W:[-1,0]};\nconst OPPOSITE={N:\"S\",E:\"W\",S:\"N\",W:\"E\"};\nconst NETWORKS=[1,2];\nfunction newSet(){\nreturn{columns:0,rows:0,tiles:0,processors:0,limit:0,depth:4,ports:[],data:[],misses:[],shows:[],programs:[],labels:[],lines:[]};\n}\nconst tileAt=(set,x,y)=>Number(y)*set.columns+Number(x);\nconst portAt=(set,words)=>set.ports.find((port)=>port.kind===\"source\"&&port.place.join(\" \")===words.join(\" \"));\nfunction addPort(set,[kind,net,x,y,side,room]){\nset.ports.push({kind,net:Number(net),x:Number(x),y:Number(y),side,place:[net,x,y,side],room:Number(room||0),words:[]});\n}\nconst READ_LINE={\ngrid:(set,words)=>{\n[set.columns,set.rows]=words.slice(1).map(Number);\nset.tiles=set.columns*set.rows;\n},\nlimit:(set,words)=>{set.limit=Number(words[1]);},\ndepth:(set,words)=>{set.depth=Number(words[1]);},\nsource:addPort,\nsink:addPort,\nfeed:(set,words)=>{portAt(set,words.slice(1,5)).words.push(...words.slice(5).map(Number));},\ndata:(set,[,x,y,address,word])=>{(set.data[tileAt(set,x,y)]||=new Map()).set(Number(address),Number(word));},\nmisses:(set,[,x,y,...turns])=>{(set.misses[tileAt(set,x,y)]||=[]).push(...turns.map(Number));},\nshow:(set,[,x,y,address,count])=>{set.shows.push({tile:tileAt(set,x,y),address:Number(address),count:Number(count)});},\n};\nfunction readProgram(set,lines,i,[kind,x,y]){\nconst end=lines.indexOf(\"end\",i);\nset.programs[tileAt(set,x,y)+(kind===\"switch\"?set.tiles:0)]=lines.slice(i+1,end);\nreturn end;\n}\nconst endOfListing=(text)=>text.search(/^(label|line|whole|trace)\\b/m);\nfunction readSet(lines){\nconst set=newSet();\nfor(let i=0;lines[i];i++){\nconst words=lines[i].split(\" \");\nif(READ_LINE[words[0]])READ_LINE[words[0]](set,words);\nelse i=readProgram(set,lines,i,words);\n}\nset.processors=2*set.tiles+set.ports.length;\nreturn set;\n}\nconst newWire=(from,out,to,into,net)=>({from,out,to,into,net});\nfunction tileWires(set,t){\nconst inward=NETWORKS.map((net)=>newWire(set.tiles+t,\"P\",t,\"P\",net));\nreturn [...inward,...NETWORKS.map((net)=>newWire(t,\"P\",set.tiles+t,\"P\",net))];\n}\nfunction links(set,net,t){\nconst found=[];\nfor(const side of \"NESW\"){\nconst x=(t % set.columns)+AWAY[side][0],y=Math.floor(t/set.columns)+AWAY[side][1];\nconst inside=x>=0&&y>=0&&x<set.columns&&y<set.rows;\nif(inside)found.push(newWire(set.tiles+t,side,set.tiles+tileAt(set,x,y),OPPOSITE[side],net));\n}\nreturn found;\n}\nfunction portWire(set,port,i){\nconst beside=set.tiles+tileAt(set,port.x,port.y),p=2*set.tiles+i;\nreturn port.kind===\"source\"?newWire(p,\"P\",beside,port.side,port.net):newWire(beside,port.side,p,\"P\",port.net);\n}\nfunction wiresOf(set){\nconst tiles=Array.from({length:set.tiles},(_,t)=>t);\nreturn [\n...tiles.flatMap((t)=>tileWires(set,t)),\n...NETWORKS.flatMap((net)=>tiles.flatMap((t)=>links(set,net,t))),\n...set.ports.map((port,i)=>portWire(set,port,i)),\n];\n}\nconst KINDS=[\"\",\"fired\",\"stalled\",\"starved\",\"blocked\",\"stopped\"];\nconst [FIRED,STALLED,STARVED,BLOCKED,STOPPED]=[1,2,3,4,5];\nconst newHistory=()=>({cycles:[],values:[]});\nfunction write(history,k,value){\nhistory.cycles.push(k);\nhistory.values.push(value);\n}\nconst mark=(history,k)=>history.cycles.push(k);\nfunction countBefore(history,k){\nlet low=0,high=history.cycles.length;\nwhile(low<high){\nconst middle=(low+high)>>1;\nif(history.cycles[middle]<k)low=middle+1;\nelse high=middle;\n}\nreturn low;\n}\nfunction valueBefore(history,k,initial){\nconst count=history?countBefore(history,k):0;\nreturn count?history.values[count-1]:initial;\n}\nfunction writtenIn(history,k){\nconst count=history?countBefore(history,k):0;\nreturn history&&history.cycles[count]===k?history.values[count]:undefined;\n}\nconst listOf=(length,make)=>Array.from({length},make);\nfunction newRun(set,wires,first,positions,end){\nconst n=set.processors,begin=end<0?first:0,last=first+positions-1,width=(end<0?last:end)-begin+1;\nreturn{\nwires,positions,first,last,begin,end:begin+width-1,width,\nkinds:new Uint8Array(n*width),waits:new Int16Array(n*width).fill(-1),marks:[],\nstepsBefore:new Array(n).fill(0),missesBefore:new Array(n).fill(0),\npcs:listOf(n,newHistory),steps:listOf(n,newHistory),misses:listOf(n,newHistory),loads:listOf(n,newHistory),stores:listOf(n,newHistory),\nregisters:listOf(n,()=>[]),memories:listOf(n,()=>new Map()),\nsent:listOf(wires.length,newHistory),taken:listOf(wires.length,newHistory),\nsends:[],counts:[],\n};\n}\nfunction touchedWord(run,p,address){\nif(!run.memories[p].has(address))run.memories[p].set(address,newHistory());\nreturn run.memories[p].get(address);\n}\nconst SUM={width:64,shift:6};\nfunction sumTurns(run,processors){\nconst blocks=(run.width>>SUM.shift)+1,sums=new Uint32Array(processors*blocks*6);\nfor(let p=0;p<processors;p++){\nconst counts=[0,0,0,0,0,0];\nfor(let i=0;i<run.width;i++){\nif(i % SUM.width===0)sums.set(counts,6*(p*blocks+(i>>SUM.shift)));\ncounts[run.kinds[p*run.width+i]]++;\n}\n}\nreturn{blocks,sums};\n}\nconst TEXT={all:\"\",bytes:new Uint8Array(0),at:0};\nconst [LINE_END,BLANK,STAR,EQUALS]=[10,32,42,61];\nfunction readDecimal(){\nconst{bytes}=TEXT;\nlet value=0,{at}=TEXT,digit=bytes[at]-48;\nwhile(digit>=0&&digit<=9){\nvalue=10*value+digit;\ndigit=bytes[++at]-48;\n}\nTEXT.at=at;\nreturn value;\n}\nfunction readHex(){\nconst{bytes}=TEXT;\nlet value=0,{at}=TEXT;\nfor(;bytes[at]>EQUALS||(bytes[at]>=48&&bytes[at]<=57);at++)value=16*value+bytes[at]-(bytes[at]<=57?48:87);\nTEXT.at=at;\nreturn value;\n}\nfunction readIf(byte){\nif(TEXT.bytes[TEXT.at]!==byte)return false;\nTEXT.at++;\nreturn true;\n}\nconst readWord=()=>(readIf(EQUALS)?readHex():undefined);\nfunction restOfLine(){\nconst begin=TEXT.at;\nskipLine();\nreturn TEXT.all.slice(begin,TEXT.at);\n}\nfunction skipLine(){\nwhile(TEXT.bytes[TEXT.at]!==LINE_END)TEXT.at++;\n}\nfunction readEntry(run,p,k,sign){\nswitch(sign){\ncase \"+\":return write(run.sent[readDecimal()],k,readWord());\ncase \"-\":return mark(run.taken[readDecimal()],k);\ncase \"$\":return write((run.registers[p][readDecimal()]||=newHistory()),k,readWord());\ncase \"@\":return readTouch(run,p,k);\ncase \"#\":run.stepsBefore[p]=readDecimal();return undefined;\ndefault:if(k>=run.first)return write(run.misses[p],k,readDecimal());\n}\nrun.missesBefore[p]=readDecimal();\nreturn undefined;\n}\nfunction readTouch(run,p,k){\nconst address=readHex(),value=readWord(),word=touchedWord(run,p,address);\nwrite(value===undefined?run.loads[p]:run.stores[p],k,address);\nif(value!==undefined)write(word,k,value);\n}\nfunction setTurn(run,p,k,kind,wire){\nconst at=p*run.width+k-run.begin;\nrun.kinds[at]=kind;\nrun.waits[at]=wire;\n}\nconst kindOfWait=(run,p,wire)=>(run.wires[wire].to===p?STARVED:BLOCKED);\nfunction readStep(run,p,k){\nif(k>=run.first){\nsetTurn(run,p,k,FIRED,-1);\nmark(run.steps[p],k);\n}\nwrite(run.pcs[p],k,readDecimal());\nwhile(readIf(BLANK))readEntry(run,p,k,String.fromCharCode(TEXT.bytes[TEXT.at++]));\n}\nfunction readLine(run,k){\nconst p=readDecimal();\nreadIf(BLANK);\nswitch(TEXT.all[TEXT.at]){\ncase \"s\":setTurn(run,p,k,STALLED,-1);break;\ncase \"x\":setTurn(run,p,k,STOPPED,-1);readMark(run,p);break;\ncase \"w\":readWait(run,p,k);break;\ndefault:readStep(run,p,k);\n}\nskipLine();\n}\nfunction readWait(run,p,k){\nTEXT.at++;\nconst wire=readDecimal();\nsetTurn(run,p,k,kindOfWait(run,p,wire),wire);\n}\nfunction readMark(run,p){\nTEXT.at+=2;\nrun.marks[p]=restOfLine();\n}\nfunction beginCycle(run,k){\nif(k===run.first)return;\nconst end=run.kinds.length;\nfor(let at=k-run.begin;at<end;at+=run.width){\nif(run.kinds[at-1]<=STALLED)continue;\nrun.kinds[at]=run.kinds[at-1];\nrun.waits[at]=run.waits[at-1];\n}\n}\nfunction readTurns(run,p){\nlet k=0;\nwhile(readIf(BLANK)){\nconst turn=TEXT.all[TEXT.at];\nif(turn===\"x\"){\nreadMark(run,p);\nfor(;k<=run.end;k++)setTurn(run,p,k,STOPPED,-1);\nreturn;\n}\nTEXT.at++;\nconst wire=turn===\"w\"?readDecimal():-1,kind=turn===\"f\"?FIRED:turn===\"s\"?STALLED:kindOfWait(run,p,wire);\nfor(const end=k+readTimes();k<end;k++)setTurn(run,p,k,kind,wire);\n}\n}\nconst readTimes=()=>(readIf(STAR)?readDecimal():1);\nfunction readSends(run){\nTEXT.at+=5;\nconst w=readDecimal(),cycles=[];\nlet k=0;\nwhile(readIf(BLANK)){\nconst gap=readDecimal();\nfor(let times=readTimes();times>0;times--)cycles.push((k+=gap));\n}\nrun.sends[w]={cycles};\n}\nfunction readWhole(run,end){\nfor(;TEXT.at<end;TEXT.at++){\nif(TEXT.all[TEXT.at]===\"s\")readSends(run);\nelse readTurns(run,readDecimal());\n}\n}\nfunction readCycles(run,end){\nlet k=run.first-1;\nfor(;TEXT.at<end;TEXT.at++){\nif(TEXT.all[TEXT.at]!==\"c\")readLine(run,k);\nelse{\nbeginCycle(run,++k);\nskipLine();\n}\n}\n}\nfunction readNames(set){\nwhile(TEXT.all[TEXT.at]===\"l\"){\nconst isLabel=TEXT.all[TEXT.at+1]===\"a\";\nTEXT.at+=isLabel?6:5;\nconst p=readDecimal(),i=readIf(BLANK)&&readDecimal();\nreadIf(BLANK);\nif(isLabel)(set.labels[p]||=[]).push({i,name:restOfLine()});\nelse(set.lines[p]||=[])[i]=readDecimal();\nTEXT.at++;\n}\n}\nfunction readTrace(text,at,set,wires){\nObject.assign(TEXT,{all:text,bytes:new TextEncoder().encode(text),at});\nreadNames(set);\nconst begin=text.indexOf(\"\\ntrace \",at-1)+1,end=text.lastIndexOf(\"\\ncounts\\n\")+1;\nconst numberAt=(place)=>parseInt(text.slice(place,place+12),10);\nconst first=numberAt(begin+6),last=numberAt(text.lastIndexOf(\"\\ncycle \",end)+7),isWhole=TEXT.at<begin;\nconst run=newRun(set,wires,first,last-first+1,isWhole?numberAt(TEXT.at+6):-1);\nskipLine();\nTEXT.at++;\nif(isWhole)readWhole(run,begin);\nTEXT.at=text.indexOf(\"\\n\",begin)+1;\nreadCycles(run,end);\nrun.counts=text.slice(end+7).trim().split(\"\\n\");\nObject.assign(TEXT,{all:\"\",bytes:new Uint8Array(0)});\nfor(let w=0;w<wires.length;w++)run.sends[w]=isWhole?run.sends[w]||{cycles:[]}:run.sent[w];\nreturn run;\n}\nconst numberAfter=(words,name)=>(words.includes(name)?Number(words[words.indexOf(name)+1]):0);\nfunction readWaitOf(outcome,words){\nconst wait={processor:Number(words[1]),wire:Number(words[3]),other:Number(words[5])};\nif(outcome.cycles<0)outcome.waits.push(wait);\nelse outcome.waited.push({...wait,cycles:Number(words[7])});\n}\nconst READ_COUNT={\noutcome:(outcome,words)=>{[outcome.word,...outcome.words]=words.slice(1);},\nwait:readWaitOf,\nends:(outcome,words)=>{outcome.ends=Number(words[1]);outcome.endMark=words.slice(2).join(\" \");},\ncycles:(outcome,words)=>{outcome.cycles=Number(words[1]);outcome.steps=Number(words[3]);},\npassed:(outcome,words)=>{outcome.passed[Number(words[1])]=Number(words[2]);},\n};\nfunction readOutcome(run){\nconst outcome={word:\"\",words:[],waits:[],ends:-1,endMark:\"\",cycles:-1,steps:0,totals:[],waited:[],passed:[]};\nfor(const line of run.counts){\nconst words=line.split(\" \");\nif(READ_COUNT[words[0]])READ_COUNT[words[0]](outcome,words);\nelse outcome.totals.push(KINDS.slice(1).map((kind)=>numberAfter(words,kind)));\n}\noutcome.atRest=outcome.cycles===run.last;\noutcome.told=new Set(outcome.waits.map((wait)=>wait.processor));\nif(outcome.ends>=0)outcome.told.add(outcome.ends);\nif(outcome.word===\"trapped\"||outcome.word===\"limit\")outcome.told.add(Number(outcome.words[0]));\nreturn outcome;\n}\nfunction heldSince(run,p,wire){\nconst at=p*run.width,holds=(i)=>(wire<0?run.kinds[at+i]===STOPPED:run.waits[at+i]===wire);\nlet i=run.width-1;\nwhile(i>0&&holds(i-1))i--;\nreturn run.begin+i;\n}\nfunction closedIn(run,outcome){\nif(outcome.cycles!==run.end||!outcome.waits.length)return run.end;\nconst held=outcome.waits.map((wait)=>heldSince(run,wait.processor,wait.wire));\nreturn Math.max(...held,outcome.ends<0?run.begin:heldSince(run,outcome.ends,-1));\n}\nconst TRACE=document.getElementById(\"trace\").textContent,PLACE=endOfListing(TRACE);\nconst SET=readSet(TRACE.slice(0,PLACE).trim().split(\"\\n\")),WIRES=wiresOf(SET),RUN=readTrace(TRACE,PLACE,SET,WIRES),OUTCOME=readOutcome(RUN);\nconst CLOSED=closedIn(RUN,OUTCOME),SUMS=sumTurns(RUN,SET.processors);\nconst INPUTS=listOf(SET.processors,()=>[]),OUTPUTS=listOf(SET.processors,()=>[]);\nWIRES.forEach((wire,w)=>{\nOUTPUTS[wire.from].push(w);\nINPUTS[wire.to].push(w);\n});\nconst isTile=(p)=>p<SET.tiles;\nconst isPort=(p)=>p>=2*SET.tiles;\nconst portOf=(p)=>SET.ports[p-2*SET.tiles];\nconst isSource=(p)=>isPort(p)&&portOf(p).kind===\"source\";\nconst programOf=(p)=>SET.programs[p]||[];\nconst placeOf=(t)=>t % SET.columns+\" \"+Math.floor(t/SET.columns);\nconst otherEnd=(w,p)=>(WIRES[w].from===p?WIRES[w].to:WIRES[w].from);\nfunction nameOf(p){\nif(isTile(p))return \"tile \"+placeOf(p);\nif(!isPort(p))return \"switch \"+placeOf(p-SET.tiles);\nreturn portOf(p).kind+\" \"+portOf(p).place.join(\" \");\n}\nconst knowsEnd=()=>OUTCOME.cycles===RUN.end;\nconst hasState=(k)=>k>=RUN.first&&k<=RUN.last;\nconst turnAt=(p,k)=>RUN.kinds[p*RUN.width+k-RUN.begin];\nconst waitAt=(p,k)=>RUN.waits[p*RUN.width+k-RUN.begin];\nconst pcAt=(p,k)=>valueBefore(RUN.pcs[p],k,0);\nconst stepsAt=(p,k)=>RUN.stepsBefore[p]+countBefore(RUN.steps[p],k);\nconst missesAt=(p,k)=>RUN.missesBefore[p]+countBefore(RUN.misses[p],k);\nconst registerAt=(p,r,k)=>valueBefore(RUN.registers[p][r],k,0);\nconst givenWord=(t,address)=>(SET.data[t]&&SET.data[t].get(address))||0;\nconst wordAt=(t,address,k)=>valueBefore(RUN.memories[t].get(address),k,givenWord(t,address));\nconst valuesAt=(w,k)=>(hasState(k)?RUN.sent[w].values.slice(countBefore(RUN.taken[w],k),countBefore(RUN.sent[w],k)):[]);\nconst instructionAt=(p,k)=>(hasState(k)&&programOf(p)[pcAt(p,k)])||\"\";\nfunction labelBefore(p,i){\nconst label=(SET.labels[p]||[]).filter((it)=>it.i<=i).at(-1);\nreturn label?label.name+(i>label.i?\"+\"+(i-label.i):\"\"):\"\";\n}\nconst lineText=(p,i)=>(SET.lines[p]&&SET.lines[p][i]?\"line \"+SET.lines[p][i]:\"\");\nfunction pcText(p,k){\nconst pc=pcAt(p,k),label=labelBefore(p,pc),line=lineText(p,pc);\nreturn \"pc \"+pc+(label?\" (\"+label+\")\":\"\")+(line?\", \"+line:\"\");\n}\nconst sentIn=(w,k)=>writtenIn(RUN.sent[w],k);\nconst takenIn=(w,k)=>RUN.sent[w].values.slice(countBefore(RUN.taken[w],k),countBefore(RUN.taken[w],k+1));\nfunction addTurns(counts,p,k){\nconst i=k-RUN.begin,block=i>>SUM.shift,at=6*(p*SUMS.blocks+block),{kinds}=RUN;\nfor(let kind=FIRED;kind<=STOPPED;kind++)counts[kind]+=SUMS.sums[at+kind];\nfor(let j=p*RUN.width+(block<<SUM.shift),end=p*RUN.width+i;j<end;j++)counts[kinds[j]]++;\nreturn counts;\n}\nconst turnsUpTo=(p,k)=>addTurns([0,0,0,0,0,0],p,k);\nfunction turnsFrom(p,from,end){\nconst before=turnsUpTo(p,from);\nreturn turnsUpTo(p,end).map((count,kind)=>count-before[kind]);\n}\nconst turnsBefore=(p,k)=>turnsUpTo(p,k).slice(1);\nconst sendsFrom=(w,from,end)=>countBefore(RUN.sends[w],end)-countBefore(RUN.sends[w],from);\nconst isTold=(k)=>knowsEnd()&&k>=(OUTCOME.waits.length?CLOSED:RUN.end);\nconst hex=(value)=>value.toString(16).padStart(8,\"0\");\nconst many=(count,what)=>count+\" \"+what+(count===1?\"\":\"s\");\nconst markOf=(p)=>(isPort(p)||programOf(p).length?RUN.marks[p]:\"empty program\");\nfunction turnWord(p,k){\nconst kind=turnAt(p,k);\nif(kind===STOPPED)return markOf(p);\nreturn kind===FIRED?\"fires\":KINDS[kind];\n}\nconst turnClass=(p,k)=>(turnAt(p,k)===STOPPED?markOf(p).split(\" \")[0]:KINDS[turnAt(p,k)]);\nfunction whyWaits(p,w,k){\nif(!hasState(k))return(WIRES[w].from===p?\"waits for room on wire \":\"waits for a value on wire \")+w+\", \"+nameOf(otherEnd(w,p));\nconst other=nameOf(otherEnd(w,p)),held=valuesAt(w,k).length;\nif(WIRES[w].from===p)return \"has to send to \"+other+\", but wire \"+w+\" is full with \"+many(held,\"value\");\n"

unfoldable pub tail_2 : List ℕ
tail_2 = codes "return \"needs a value from \"+other+\", but wire \"+w+(held?\" holds only \"+held:\" is empty\");\n}\nfunction whatFires(p,k,show){\nif(!hasState(k))return \"takes a step\";\nconst parts=[];\nfor(const w of INPUTS[p])for(const value of takenIn(w,k))parts.push(\"takes \"+show(value)+\" from \"+nameOf(WIRES[w].from));\nfor(const w of OUTPUTS[p])if(sentIn(w,k)!==undefined)parts.push(\"sends \"+show(sentIn(w,k))+\" to \"+nameOf(WIRES[w].to));\nRUN.registers[p].forEach((history,r)=>{\nconst value=writtenIn(history,k);\nif(value!==undefined)parts.push((isTile(p)?\"$\":\"r\")+r+\" becomes \"+show(value));\n});\nconst loaded=writtenIn(RUN.loads[p],k),stored=writtenIn(RUN.stores[p],k),cost=writtenIn(RUN.misses[p],k);\nif(loaded!==undefined)parts.push(\"loads from 0x\"+hex(loaded));\nif(stored!==undefined)parts.push(\"the word at 0x\"+hex(stored)+\" becomes \"+show(wordAt(p,stored,k+1)));\nif(cost!==undefined)parts.push(\"misses its cache, which costs \"+many(cost,\"turn\"));\nreturn parts.join(\"; \")||whereTo(p,k);\n}\nfunction whereTo(p,k){\nconst next=writtenIn(RUN.pcs[p],k);\nreturn instructionAt(p,k).startsWith(\"halt\")?\"halts\":\"goes to instruction \"+next;\n}\nfunction sentenceOf(p,k,show){\nif(waitAt(p,k)>=0)return whyWaits(p,waitAt(p,k),k);\nif(turnAt(p,k)===STALLED)return \"pays a turn for a cache miss\";\nif(turnAt(p,k)===STOPPED)return \"takes no more steps: \"+markOf(p);\nreturn whatFires(p,k,show);\n}\nfunction outcomeSentence(){\nconst p=Number(OUTCOME.words[0]);\nswitch(OUTCOME.word){\ncase \"done\":return \"every tile and every switch is halted\";\ncase \"deadlock\":return \"a cycle of \"+p+\" processors, each waits for the next\";\ncase \"trapped\":return nameOf(p)+\" is trapped: \"+OUTCOME.words[1];\ncase \"limit\":return nameOf(p)+\" has executed its limit of \"+SET.limit;\ndefault:return \"the waits from \"+nameOf(OUTCOME.waits[0].processor)+\" end in \"+nameOf(OUTCOME.ends)+\", \"+OUTCOME.endMark;\n}\n}\nfunction summaryOf(k){\nconst counts=[0,0,0,0,0,0];\nfor(let p=0;p<SET.processors;p++)counts[turnAt(p,k)]++;\nconst when=k===OUTCOME.cycles?\"at rest after \"+many(k,\"cycle\"):\"cycle \"+k+\" of \"+OUTCOME.cycles;\nconst parts=counts.map((count,kind)=>count+\" \"+(kind===FIRED?\"firing\":KINDS[kind]));\nreturn when+\": \"+parts.slice(1).join(\", \");\n}\nconst goesOn=(p,k)=>turnAt(p,k)===FIRED||turnAt(p,k)===STALLED;\nfunction stretchesOf(){\nconst found=[];\nif(!knowsEnd()||OUTCOME.cycles<=RUN.begin)return found;\nlet k=OUTCOME.cycles-1,end=k+1,p=0;\nwhile(!goesOn(p,k))p++;\nfor(;k>=RUN.begin;k--){\nconst wire=k===RUN.begin||goesOn(p,k-1)?-1:waitAt(p,k-1);\nif(wire<0&&k>RUN.begin)continue;\nfound.push({p,from:k,end,wire});\nend=k;\np=wire<0?p:otherEnd(wire,p);\n}\nreturn found.reverse();\n}\nconst PATH=stretchesOf();\nconst stretchAt=(k)=>PATH.findIndex(({from,end})=>from<=k&&k<end);\nconst stretchesIn=(from,end)=>PATH.filter((it)=>it.from<end&&it.end>from);\nconst isByValue=({p,wire})=>wire>=0&&WIRES[wire].to===p;\nconst isByRoom=({p,wire})=>wire>=0&&WIRES[wire].from===p;\nfunction countsOfPath(){\nconst counts={steps:0,values:0,rooms:0};\nfor(const it of PATH){\nif(isByValue(it))counts.values++;\nif(isByRoom(it))counts.rooms++;\nfor(let k=it.from;k<it.end;k++)if(turnAt(it.p,k)===FIRED)counts.steps++;\n}\nreturn counts;\n}\nconst PATH_COUNTS=countsOfPath();\nfunction pathTurns(from,end){\nconst turns=new Array(SET.processors).fill(0);\nfor(const it of stretchesIn(from,end))turns[it.p]+=Math.min(end,it.end)-Math.max(from,it.from);\nreturn turns;\n}\nfunction pathHops(from,end){\nconst hops=new Map();\nfor(const it of stretchesIn(from,end))if(it.wire>=0&&it.from>=from)hops.set(it.wire,(hops.get(it.wire)||0)+1);\nreturn hops;\n}\nfunction pathParts(k){\nif(!knowsEnd())return [make(\"p\",{},\"The path is found from the end of the run, which this page does not have.\")];\nif(!PATH.length)return [make(\"p\",{},\"No processor goes on in a cycle of this page.\")];\nconst cycles=OUTCOME.cycles-RUN.begin,{steps,values,rooms}=PATH_COUNTS;\nconst counts=many(steps,\"step\")+\" and \"+many(cycles-steps,\"stall turn\")+\"; \"+(cycles-1-values-rooms)+\n\" go on where the one before was, \"+values+\" had to wait for a value, \"+rooms+\" for room.\";\nreturn [make(\"p\",{},pathMeaning(rooms)),make(\"p\",{},counts),make(\"h3\",{},\"most of its turns\"),pathTable(),...pathList(k)];\n}\nfunction pathMeaning(rooms){\nconst chain=\"One turn of each of the \"+many(OUTCOME.cycles-RUN.begin,\"cycle\")+(RUN.begin?\" of this page\":\"\")+\", each of which had to wait for the one before it. \";\nif(RUN.begin)return chain+\"This page begins with cycle \"+RUN.begin+\": the path before it is not on this page.\";\nconst sooner=\"So in no order of steps does the last one come sooner\";\nreturn chain+sooner+(rooms?\".\":\", and deeper wires do not change that, since none waits for room.\");\n}\nfunction pathTable(){\nconst table=make(\"table\",{}),turns=pathTurns(RUN.begin,RUN.end);\nconst all=turns.flatMap((count,p)=>(count?[{p,count}]:[])),cycles=OUTCOME.cycles-RUN.begin;\nfor(const{p,count}of topOf(all))table.append(row(\"\",chooser(p),number(count),make(\"td\",{className:\"num soft\"},percent(count/cycles))));\nreturn table;\n}\nfunction pathList(k){\nconst at=stretchAt(Math.min(k,OUTCOME.cycles-1)),first=Math.max(0,Math.min(at-20,PATH.length-41)),table=make(\"table\",{});\nfor(const it of PATH.slice(first,first+41)){\nconst{p,from,end,wire}=it,by=wire<0?\"\":(isByValue(it)?\"value, wire \":\"room, wire \")+wire;\nconst pcs=isPort(p)||!hasState(from)||!hasState(end-1)?\"\":\"pc \"+pcAt(p,from)+(end-from>1?\" to \"+pcAt(p,end-1):\"\");\nconst cycles=from+(end-from>1?\" to \"+(end-1):\"\");\ntable.append(row(from<=k&&k<end?\"now\":\"\",linkTo(cycles,()=>jump(from,p)),chooser(p),by,pcs));\n}\nconst part=PATH.length>41?\": \"+PATH.length+\", here those round this cycle\":\"\";\nreturn [make(\"h3\",{},\"its stretches, and what each waited for\"+part),region(\"stretches\",\"critical path\",table)];\n}\nconst routesOf=(text)=>[...text.matchAll(/([12]):(\\w+)>(\\w)/g)].map((found)=>({net:Number(found[1]),from:found[2],to:found[3]}));\nconst inputAt=(p,net,side)=>INPUTS[p].find((w)=>WIRES[w].net===net&&WIRES[w].into===side);\nconst outputAt=(p,net,side)=>OUTPUTS[p].find((w)=>WIRES[w].net===net&&WIRES[w].out===side);\nconst isSwitch=(p)=>!isTile(p)&&!isPort(p);\nfunction placeBefore({w,i}){\nconst k=RUN.sent[w].cycles[i],wire=WIRES[w];\nif(k<RUN.first||!isSwitch(wire.from))return null;\nconst route=routesOf(instructionAt(wire.from,k)).find((it)=>it.net===wire.net&&it.to===wire.out);\nconst from=route&&inputAt(wire.from,wire.net,route.from);\nreturn from===undefined?null:{w:from,i:countBefore(RUN.taken[from],k)};\n}\nfunction placesBehind({w,i}){\nconst k=RUN.taken[w].cycles[i],wire=WIRES[w];\nif(k===undefined||!isSwitch(wire.to))return [];\nconst routes=routesOf(instructionAt(wire.to,k)).filter((it)=>it.net===wire.net&&it.from===wire.into);\nreturn routes.map((it)=>outputAt(wire.to,wire.net,it.to)).map((out)=>({w:out,i:countBefore(RUN.sent[out],k)}));\n}\nfunction wayOf(place){\nlet first=place;\nfor(let before=placeBefore(first),most=1000;before&&most>0;before=placeBefore(first),most--)first=before;\nconst places=[first];\nfor(let n=0;n<places.length&&n<400;n++)places.push(...placesBehind(places[n]));\nreturn places.map(({w,i})=>({w,i,value:RUN.sent[w].values[i],sent:RUN.sent[w].cycles[i],taken:RUN.taken[w].cycles[i]}));\n}\nfunction placesOn(w,k){\nconst from=countBefore(RUN.taken[w],k),end=countBefore(RUN.sent[w],k+1);\nreturn listOf(end-from,(_,n)=>({w,i:from+n}));\n}\nconst wordOf=(text)=>(/^-?\\d+$/.test(text)?Number(text)>>>0:/^(0x)?[0-9a-f]{1,8}$/.test(text)?parseInt(text.replace(\"0x\",\"\"),16):undefined);\nfunction found(history,p,what,due){\nconst hits=[],{cycles,values}=history||newHistory(),begin=countBefore({cycles},RUN.first);\nconst next=(i)=>(due!==undefined?values.indexOf(due,i):i<cycles.length?i:-1);\nfor(let i=next(begin);i>=0;i=next(i+1))hits.push({k:cycles[i],p,value:values[i],what});\nreturn hits;\n}\nfunction turnsThat(p,allows,what){\nconst hits=[],isNew=(k)=>k===RUN.begin||turnAt(p,k)!==turnAt(p,k-1)||waitAt(p,k)!==waitAt(p,k-1);\nfor(let k=RUN.begin;k<=RUN.end;k++)if(allows(turnAt(p,k))&&isNew(k))hits.push({k,p,what:()=>what});\nreturn hits;\n}\nconst sendHits=(w,due)=>found(RUN.sent[w],WIRES[w].from,(value)=>\"sends \"+wordText(value)+\" on wire \"+w,due);\nconst registerHits=(p,r,due)=>found(RUN.registers[p][r],p,(value)=>(isTile(p)?\"$\":\"r\")+r+\" becomes \"+wordText(value),due);\nconst addressHits=(p,address,due)=>[\n...found(RUN.memories[p]&&RUN.memories[p].get(address),p,(value)=>\"the word at 0x\"+hex(address)+\" becomes \"+wordText(value),due),\n...(due===undefined?found(RUN.loads[p],p,()=>\"loads from 0x\"+hex(address),address):[]),\n];\nconst stepsFrom=(p,pc)=>found(RUN.steps[p],p,()=>\"fires at pc \"+pc).filter(({k})=>pcAt(p,k)===pc);\nfunction valueHits(due){\nconst hits=WIRES.flatMap((_,w)=>sendHits(w,due));\nfor(let p=0;p<SET.processors;p++){\nRUN.registers[p].forEach((_,r)=>hits.push(...registerHits(p,r,due)));\nfor(const address of RUN.memories[p].keys())hits.push(...addressHits(p,address,due));\n}\nreturn hits;\n}\nconst EVENTS={\nwaits:(p)=>turnsThat(p,(kind)=>kind===STARVED||kind===BLOCKED,\"begins to wait\"),\nstarved:(p)=>turnsThat(p,(kind)=>kind===STARVED,\"begins to wait for a value\"),\nblocked:(p)=>turnsThat(p,(kind)=>kind===BLOCKED,\"begins to wait for room\"),\nstalled:(p)=>turnsThat(p,(kind)=>kind===STALLED,\"begins to pay for a miss\"),\nstops:(p)=>turnsThat(p,(kind)=>kind===STOPPED,\"is stopped\"),\nfires:(p)=>turnsThat(p,(kind)=>kind===FIRED,\"begins to fire\"),\nmisses:(p)=>found(RUN.misses[p],p,()=>\"misses its cache\"),\nloads:(p)=>found(RUN.loads[p],p,(address)=>\"loads from 0x\"+hex(address)),\nstores:(p)=>found(RUN.stores[p],p,(address)=>\"stores at 0x\"+hex(address)),\nsends:(p)=>OUTPUTS[p].flatMap((w)=>sendHits(w)),\ntakes:(p)=>INPUTS[p].flatMap((w)=>found(RUN.taken[w],p,()=>\"takes from wire \"+w)),\n};\nfunction hitsOf(text,p){\nconst [subject,wanted]=text.toLowerCase().trim().split(/\\s*=\\s*/),due=wanted===undefined?undefined:wordOf(wanted);\nif(wanted!==undefined&&due===undefined)return null;\nconst label=(SET.labels[p]||[]).find(({name})=>subject===\"pc \"+name.toLowerCase());\nif(label)return stepsFrom(p,label.i);\nconst parts=subject.match(/^(\\$|r|@|wire|w|pc)\\s*(0x)?([0-9a-f]+)$/);\nif(parts){\nconst place=parseInt(parts[3],parts[2]||parts[1]===\"@\"?16:10);\nswitch(parts[1]){\ncase \"@\":return addressHits(p,place-(place % 4),due);\ncase \"pc\":return stepsFrom(p,place);\ncase \"wire\":case \"w\":return WIRES[place]?sendHits(place,due):null;\ndefault:return registerHits(p,place,due);\n}\n}\nif(wordOf(subject)!==undefined)return valueHits(wordOf(subject));\nconst event=subject&&Object.keys(EVENTS).find((name)=>name.startsWith(subject.replace(/s$/,\"\")));\nreturn event?EVENTS[event](p):null;\n}\nfunction hitFrom(text,k,p,isForth){\nconst hits=hitsOf(text,p);\nif(!hits)return{message:\"not understood\"};\nhits.sort((a,b)=>a.k-b.k||a.p-b.p);\nconst isBehind=(it)=>it.k>k||(it.k===k&&it.p>p);\nconst isBefore=(it)=>it.k<k||(it.k===k&&it.p<p);\nconst n=isForth?hits.findIndex(isBehind):hits.length-1-[...hits].reverse().findIndex(isBefore);\nif(!hits.length)return{message:\"nowhere on this page\"};\nif(n<0||n>=hits.length)return{message:(isForth?\"none behind here, \":\"none before here, \")+many(hits.length,\"place\")+\" on this page\"};\nreturn{hit:hits[n],message:n+1+\" of \"+hits.length+\": \"+nameOf(hits[n].p)+\" \"+hits[n].what(hits[n].value)+\" in cycle \"+hits[n].k};\n}\nconst IS_LARGE=SET.columns>4||SET.rows>3;\nconst CELL=IS_LARGE?{width:236,height:140}:{width:252,height:220};\nconst TILE=IS_LARGE?{x:0,y:0,width:116,height:50}:{x:0,y:0,width:132,height:66};\nconst SWITCH=IS_LARGE?{x:66,y:80,width:116,height:50}:{x:52,y:128,width:148,height:66};\nconst LANE=IS_LARGE?12:16;\nconst PORT={width:200,height:LANE};\nconst CHANNEL=IS_LARGE?67:58;\nconst cornerOf=(t)=>({x:(t % SET.columns)*CELL.width,y:Math.floor(t/SET.columns)*CELL.height});\nconst isUpright=(way)=>way===\"N\"||way===\"S\";\nconst laneOf=(net,way)=>2*(net-1)+(way===\"N\"||way===\"W\"?1:0);\nfunction tileChannel(wire){\nconst corner=cornerOf(Math.min(wire.from,wire.to));\nreturn{x:corner.x+CHANNEL,y:corner.y+TILE.height,length:SWITCH.y-TILE.height,way:isTile(wire.from)?\"S\":\"N\"};\n}\nfunction sideChannel(side,corner){\nconst across=CELL.width-SWITCH.width,down=CELL.height-SWITCH.height;\nswitch(side){\ncase \"E\":return{x:corner.x+SWITCH.x+SWITCH.width,y:corner.y+SWITCH.y,length:across};\ncase \"W\":return{x:corner.x+SWITCH.x-across,y:corner.y+SWITCH.y,length:across};\ncase \"S\":return{x:corner.x+TILE.width+4,y:corner.y+SWITCH.y+SWITCH.height,length:down};\ndefault:return{x:corner.x+TILE.width+4,y:corner.y+SWITCH.y-down,length:down};\n}\n}\nfunction portChannel(wire,p){\nconst{side,net}=portOf(p),corner=cornerOf((wire.from===p?wire.to:wire.from)-SET.tiles);\nconst way=p===wire.from?OPPOSITE[side]:side,lane=laneOf(net,way),channel={...sideChannel(side,corner),way};\nif(side===\"S\")channel.length=40+21*lane;\nif(side===\"N\"){\nchannel.y=corner.y-22-21*lane;\nchannel.length=corner.y+SWITCH.y-channel.y;\n}\nreturn channel;\n}\nfunction channelOf(wire){\nconst port=[wire.from,wire.to].find(isPort);\nlet channel;\nif(isTile(wire.from)||isTile(wire.to))channel=tileChannel(wire);\nelse if(port!==undefined)channel=portChannel(wire,port);\nelse channel={...sideChannel(wire.out,cornerOf(wire.from-SET.tiles)),way:wire.out};\nreturn{...channel,lane:laneOf(wire.net,channel.way)};\n}\nconst CHANNELS=WIRES.map(channelOf);\nconst trackOf=(channel)=>LANE*channel.lane+LANE/2;\nfunction along(channel,track,distance){\nconst{x,y,length,way}=channel;\nswitch(way){\ncase \"E\":return [x+distance,y+track];\ncase \"W\":return [x+length-distance,y+track];\ncase \"S\":return [x+track,y+distance];\ndefault:return [x+track,y+length-distance];\n}\n}\nfunction waitEnds(p,w){\nconst wire=WIRES[w],channel=CHANNELS[w],sends=wire.from===p;\nconst inside=isTile(wire.from)||isTile(wire.to);\nconst track=inside?2*LANE*(wire.net-1)+(isTile(p)?LANE:2*LANE-1):LANE*(channel.lane+1)-(sends?1:3);\nconst ends=[along(channel,track,1),along(channel,track,channel.length-1)];\nreturn sends?ends:ends.reverse();\n}\nfunction boxOf(p){\nif(isPort(p))return portBox(p);\nconst corner=cornerOf(isTile(p)?p:p-SET.tiles),box=isTile(p)?TILE:SWITCH;\nreturn{x:corner.x+box.x,y:corner.y+box.y,width:box.width,height:box.height};\n}\nfunction portBox(p){\nconst channel=CHANNELS[[...INPUTS[p],...OUTPUTS[p]][0]],{side}=portOf(p);\nconst [x,y]=along(channel,trackOf(channel),isSource(p)?0:channel.length);\nif(!isUpright(side))return{...PORT,x:side===\"W\"?x-PORT.width:x,y:y-PORT.height/2};\nreturn{...PORT,x:x-160,y:side===\"N\"?y-PORT.height:y};\n}\nconst BOXES=listOf(SET.processors,(_,p)=>boxOf(p));\nconst DETAILS=[[\"large\",0.85],[\"medium\",IS_LARGE?0.55:0.42],[\"tiny\",0]];\nconst HEAD_SIZES={large:16,medium:22,tiny:40};\nfunction fitGrid(place,legend,zoom){\nconst isWide=window.innerWidth>=900,width=place.clientWidth-18;\nconst height=isWide?place.clientHeight-legend.offsetHeight-14:Infinity;\nconst whole=Math.min(width/VIEW.width,height/VIEW.height,1.7*typeSize());\nVIEW.scale=zoom*Math.max(whole,isWide?0.2:IS_LARGE?0.42:0.34);\nVIEW.detail=DETAILS.find(([,least])=>VIEW.scale>=least)[0];\nfor(const side of [\"markerWidth\",\"markerHeight\"])setAttribute(document.getElementById(\"head4\"),side,HEAD_SIZES[VIEW.detail]);\n"

unfoldable pub tail_3 : List ℕ
tail_3 = codes "setAttribute(VIEW.root,\"width\",Math.floor(VIEW.width*VIEW.scale));\nsetAttribute(VIEW.root,\"height\",Math.floor(VIEW.height*VIEW.scale));\nsetAttribute(VIEW.root,\"class\",VIEW.detail+(IS_LARGE?\" dense\":\"\"));\nVIEW.root.style.setProperty(\"--tiny\",Math.max(28,Math.min(IS_LARGE?40:44,10.5*typeSize()/VIEW.scale))+\"px\");\n}\nfunction showBoxes(place,processors){\nconst [left,top]=VIEW.root.getAttribute(\"viewBox\").split(\" \").map(Number),boxes=processors.map((p)=>BOXES[p]);\nconst scrollTo=(key,from,to,offset,size)=>{\nconst begin=offset+from*VIEW.scale,end=offset+to*VIEW.scale;\nif(begin<place[key]||end>place[key]+size)place[key]=(begin+end-size)/2;\n};\nconst drawn=VIEW.root.getBoundingClientRect(),frame=place.getBoundingClientRect();\nconst offsetX=drawn.left-frame.left+place.scrollLeft,offsetY=drawn.top-frame.top+place.scrollTop;\nscrollTo(\"scrollLeft\",Math.min(...boxes.map((it)=>it.x))-left,Math.max(...boxes.map((it)=>it.x+it.width))-left,offsetX,place.clientWidth);\nscrollTo(\"scrollTop\",Math.min(...boxes.map((it)=>it.y))-top,Math.max(...boxes.map((it)=>it.y+it.height))-top,offsetY,place.clientHeight);\n}\nconst SVG=\"http://www.w3.org/2000/svg\";\nfunction shape(name,attributes,parent){\nconst element=document.createElementNS(SVG,name);\nfor(const key in attributes)element.setAttribute(key,attributes[key]);\nif(parent)parent.append(element);\nreturn element;\n}\nfunction setAttribute(element,key,value){\nif(element.getAttribute(key)!==String(value))element.setAttribute(key,value);\n}\nfunction setText(element,text){\nif(element.textContent!==text)element.textContent=text;\n}\nconst VIEW={\nroot:null,width:0,height:0,scale:1,detail:\"\",boxes:[],wires:[],waits:[],\npath:null,tags:null,isTagged:false,critical:null,way:null,\nisHeat:false,\n};\nfunction frame(){\nconst left=Math.min(-10,...BOXES.map((box)=>box.x))-8,top=Math.min(-10,...BOXES.map((box)=>box.y))-8;\nconst right=Math.max(SET.columns*CELL.width-22,...BOXES.map((box)=>box.x+box.width))+14;\nconst bottom=Math.max(SET.rows*CELL.height-16,...BOXES.map((box)=>box.y+box.height))+10;\nreturn{left,top,width:right-left,height:bottom-top};\n}\nfunction buildGrid(parent,choose){\nconst{left,top,width,height}=frame();\nconst label=\"grid of \"+SET.columns+\" by \"+SET.rows+\" tiles: what each processor does in this cycle\";\nVIEW.root=shape(\"svg\",{viewBox:[left,top,width,height].join(\" \"),role:\"group\",\"aria-label\":label},null);\nObject.assign(VIEW,{width,height});\nbuildHeads(shape(\"defs\",{},VIEW.root));\nbuildGround();\nVIEW.path=shape(\"path\",{class:\"path\"},VIEW.root);\nfor(const name of [\"critical\",\"way\"])VIEW[name]={bands:shape(\"g\",{class:name},VIEW.root),tags:shape(\"g\",{class:name},null),shown:null};\nWIRES.forEach((wire,w)=>VIEW.wires.push(buildWire(w)));\nfor(let p=0;p<SET.processors;p++)VIEW.waits.push(shape(\"path\",{class:\"wait\"},VIEW.root));\nBOXES.forEach((box,p)=>VIEW.boxes.push(buildBox(p,box,choose)));\nVIEW.tags=shape(\"g\",{},VIEW.root);\nVIEW.root.append(VIEW.critical.tags,VIEW.way.tags);\nparent.append(VIEW.root);\n}\nfunction buildHeads(parent){\nfor(const i of [1,2,3,4]){\nconst size={markerWidth:16,markerHeight:16,refX:i===4?10:7,refY:8};\nconst head=shape(\"marker\",{id:\"head\"+i,viewBox:\"0 0 16 16\",markerUnits:\"userSpaceOnUse\",orient:\"auto\",...size},parent);\nshape(\"path\",{class:\"head\"+i,d:i===4?\"M0 1L12 8L0 15z\":\"M1 4L9 8L1 12z\"},head);\n}\n}\nfunction buildGround(){\nfor(let t=0;t<SET.tiles;t++){\nconst{x,y}=cornerOf(t),size={width:CELL.width-12,height:CELL.height-12,rx:6};\nshape(\"rect\",{class:\"cell\",x:x-8,y:y-8,...size},VIEW.root);\n}\nconst seen=new Set();\nCHANNELS.forEach((channel,w)=>{\nconst isOfPort=isPort(WIRES[w].from)||isPort(WIRES[w].to),key=channel.x+\" \"+channel.y;\nif(!isOfPort&&seen.has(key))return;\nif(!isOfPort)seen.add(key);\nbuildChannel(channel,isOfPort);\n});\n}\nfunction buildChannel({x,y,length,way,lane},isOfPort){\nconst offset=isOfPort?LANE*lane:0,across=isOfPort?LANE:4*LANE;\nconst place=isUpright(way)?{x:x+offset,y,width:across,height:length}:{x,y:y+offset,width:length,height:across};\nshape(\"rect\",{class:\"link\",...place},VIEW.root);\n}\nfunction buildWire(w){\nconst group=shape(\"g\",{class:\"\"},VIEW.root),channel=CHANNELS[w],track=trackOf(channel);\nconst from=along(channel,track,1),to=along(channel,track,channel.length-4);\nconst line=shape(\"path\",{d:\"M\"+from.join(\" \")+\"L\"+to.join(\" \")},group);\nreturn{group,line,shown:null};\n}\nfunction buildBox(p,box,choose){\nconst group=shape(\"g\",{class:\"box\",role:\"button\",tabindex:-1},VIEW.root),{x,y,width,height}=box;\nshape(\"rect\",{x,y,width,height,rx:4},group);\nshape(\"rect\",{class:\"ring\",x:x-4.5,y:y-4.5,width:width+9,height:height+9,rx:7},group);\nconst text=(name,dx,dy)=>shape(\"text\",{class:name,x:x+dx,y:y+dy},group);\nconst parts={group,title:shape(\"title\",{},group),shown:null};\nif(isPort(p))parts.mark=text(\"count\",6,height-4);\nelse{\nparts.name=text(\"name\",6,18);\nparts.sign=shape(\"rect\",{class:\"sign\"},group);\ntext(\"number end\",width-6,IS_LARGE?13:18).textContent=\"#\"+p;\nObject.assign(parts,{mark:text(\"mark\",6,37),code:text(\"code\",6,IS_LARGE?43:56),pc:text(\"pc\",6,56)});\n}\ngroup.addEventListener(\"click\",()=>choose(p));\nreturn parts;\n}\nfunction drawGrid(k,chosen){\nconst{from,end}=chosenRange();\nconst most=VIEW.isHeat?mostSends(from,end):0;\nfor(let w=0;w<WIRES.length;w++)(VIEW.isHeat?drawUse:drawWire)(w,VIEW.isHeat?from:k,end,most);\nfor(let p=0;p<SET.processors;p++)VIEW.isHeat?drawHeat(p,k,p===chosen,from,end):drawBox(p,k,p===chosen);\nfor(let p=0;p<SET.processors;p++)drawWait(p,k);\ndrawPath(k);\ndrawCritical(k,from,end);\n}\nfunction isNew(view,shown){\nif(view.shown===shown)return false;\nview.shown=shown;\nreturn true;\n}\nfunction drawWire(w,k){\nconst view=VIEW.wires[w],held=valuesAt(w,k),taken=hasState(k)?takenIn(w,k).length:0,sent=sentIn(w,k);\nconst isSent=sendsFrom(w,k,k+1)>0;\nif(!isNew(view,[held.join(),taken,sent,isSent].join(\":\")))return;\nemptyWire(view);\nconst moves=taken>0||isSent,holds=held.length>0||moves;\nsetAttribute(view.group,\"class\",\"wire net\"+WIRES[w].net+(holds?\" holds\":\"\")+(moves?\" moves\":\"\"));\nsetAttribute(view.line,\"marker-end\",holds?\"url(#head\"+WIRES[w].net+\")\":\"none\");\nif(!holds)return;\nconst size=beadSize(w),gap=size+1;\nheld.forEach((value,i)=>drawBead(view.group,w,CHANNELS[w].length-5-size-gap*i,size,i<taken?\"bead taken\":\"bead\"));\nif(isSent)drawBead(view.group,w,6,size,\"bead\");\nconst shown=sent===undefined?held[0]:sent;\nif(shown!==undefined)drawValue(view.group,w,shown,sent===undefined?6:13);\nconst does=(taken?\"; taken: \"+taken:\"\")+(sent===undefined?\"\":\"; sent: \"+hex(sent));\nshape(\"title\",{},view.group).textContent=wireName(w)+\": \"+held.map(hex).join(\" \")+does;\n}\nfunction emptyWire(view){\nwhile(view.group.childNodes.length>1)view.group.lastChild.remove();\nview.line.style.strokeWidth=\"\";\n}\nconst wireName=(w)=>\"wire \"+w+\", network \"+WIRES[w].net+\", from \"+nameOf(WIRES[w].from)+\" to \"+nameOf(WIRES[w].to);\nconst beadSize=(w)=>Math.min(9,LANE-3,Math.floor((CHANNELS[w].length-8)/(SET.depth+1))-1);\nconst mostSends=(from,end)=>Math.max(1,...WIRES.map((_,w)=>sendsFrom(w,from,end)));\nfunction drawUse(w,from,end,most){\nconst view=VIEW.wires[w],sends=sendsFrom(w,from,end),share=sends/Math.max(1,end-from);\nif(!isNew(view,[\"use\",from,end,VIEW.detail].join()))return;\nemptyWire(view);\nsetAttribute(view.group,\"class\",\"wire net\"+WIRES[w].net+(sends?\" holds\":\"\"));\nsetAttribute(view.line,\"marker-end\",\"none\");\nif(!sends)return;\nview.line.style.strokeWidth=(1+(sends/most)*(LANE+1)).toFixed(1)+\"px\";\nif(CHANNELS[w].length>60&&VIEW.detail!==\"tiny\")drawText(view.group,w,many(sends,\"word\"),10);\nconst title=wireName(w)+\": \"+many(sends,\"value\")+\" in the cycles \"+from+\" to \"+(end-1)+\", \"+percent(share);\nshape(\"title\",{},view.group).textContent=title;\n}\nconst percent=(share)=>(share>0&&share<0.01?\"<1%\":share<1&&share>0.99?\">99%\":Math.round(100*share)+\"%\");\nfunction drawBead(group,w,distance,size,name){\nconst [x,y]=along(CHANNELS[w],trackOf(CHANNELS[w]),distance);\nshape(\"rect\",{class:name,x:x-size/2,y:y-size/2,width:size,height:size,rx:2},group);\n}\nconst drawValue=(group,w,value,distance)=>drawText(group,w,value.toString(16),distance);\nfunction drawText(group,w,text,distance){\nconst channel=CHANNELS[w],[x,y]=along(channel,trackOf(channel),distance);\nconst place=isUpright(channel.way)?{x:x+4,y,transform:\"rotate(-90 \"+(x+4)+\" \"+y+\")\"}:{x,y:y+4};\nconst name=channel.way===\"W\"||channel.way===\"S\"?\"end\":\"start\";\nshape(\"text\",{class:name,...place},group).textContent=text;\n}\nfunction drawBox(p,k,isChosen){\nconst view=VIEW.boxes[p],isOn=isTold(k)&&OUTCOME.told.has(p),word=turnWord(p,k);\nif(!isNew(view,[word,waitAt(p,k),isOn,isChosen,stepsAt(p,k),pcAt(p,k),hasState(k),VIEW.detail].join()))return;\npaint(view,\"\");\nconst names=[\"box\",turnClass(p,k),isOn?\"on\":\"\",isChosen?\"chosen\":\"\",isPort(p)?\"port\":\"\"];\nnameBox(view,names,isChosen,labelOf(p,k));\nif(isPort(p))setText(view.mark,portText(p,k,word));\nelse drawTexts(p,k,word,view);\n}\nfunction nameBox(view,names,isChosen,label){\nsetAttribute(view.group,\"class\",names.filter(Boolean).join(\" \"));\nsetAttribute(view.group,\"tabindex\",isChosen?0:-1);\nsetAttribute(view.group,\"aria-pressed\",isChosen);\nsetAttribute(view.group,\"aria-label\",label);\nsetText(view.title,label);\n}\nconst paint=(view,colour)=>{view.group.firstChild.style.fill=colour;};\nfunction drawHeat(p,k,isChosen,from,end){\nconst view=VIEW.boxes[p],isOn=isTold(k)&&OUTCOME.told.has(p);\nif(!isNew(view,[\"heat\",from,end,isOn,isChosen,VIEW.detail].join()))return;\nconst counts=turnsFrom(p,from,end),share=counts[FIRED]/Math.max(1,end-from);\nconst label=nameOf(p)+\", cycles \"+from+\" to \"+(end-1)+\": \"+sharesText(counts,end-from);\nnameBox(view,[\"box\",\"heat\",isOn?\"on\":\"\",isChosen?\"chosen\":\"\",isPort(p)?\"port\":\"\"],isChosen,label);\npaint(view,\"color-mix(in srgb, var(--heat) \"+Math.round(100*share)+\"%, var(--page))\");\nif(isPort(p))return setText(view.mark,portOf(p).kind+\" \"+portOf(p).net+\": \"+counts[FIRED]);\nconst most=[STALLED,STARVED,BLOCKED,STOPPED].reduce((a,b)=>(counts[b]>counts[a]?b:a));\nsetText(view.mark,percent(share)+(VIEW.detail===\"large\"?\" fired\":\"\"));\nsetText(view.code,counts[most]?KINDS[most]+\" \"+percent(counts[most]/(end-from)):\"\");\nsetText(view.pc,\"\");\nplaceTexts(p,view,percent(share));\n}\nconst sharesText=(counts,cycles)=>KINDS.slice(1).map((kind,i)=>kind+\" \"+percent(counts[i+1]/Math.max(1,cycles))).join(\", \");\nfunction labelOf(p,k){\nconst w=waitAt(p,k),instruction=instructionAt(p,k);\nconst wait=w<0?\"\":\", wire \"+w+\" for \"+nameOf(otherEnd(w,p));\nreturn nameOf(p)+\", processor \"+p+\": \"+turnWord(p,k)+wait+(instruction?\", pc \"+pcAt(p,k)+\" \"+instruction:\"\");\n}\nfunction portText(p,k,word){\nconst port=portOf(p),count=stepsAt(p,k)+\"/\"+(isSource(p)?port.words.length:port.room);\nconst whole=port.kind+\" \"+port.net+\": \"+count+\" \"+word;\nreturn whole.length<=(VIEW.detail===\"large\"?28:20)?whole:cutTo(count+\" \"+word,28);\n}\nconst cutTo=(text,length)=>(text.length>length?text.slice(0,length-2)+\"..\":text);\nfunction drawTexts(p,k,word,view){\nconst isLarge=VIEW.detail===\"large\",wait=waitAt(p,k);\nconst whole=word+(wait>=0&&isLarge?\", wire \"+wait:\"\");\nsetText(view.mark,whole.length<=(isLarge?18:8)?whole:word.split(\" \")[0]);\nsetText(view.code,cutTo(instructionAt(p,k),Math.floor((BOXES[p].width-10)/6)));\nsetText(view.pc,programOf(p).length&&hasState(k)?\"pc \"+pcAt(p,k):\"\");\nplaceTexts(p,view,\"\");\ndrawSign(turnAt(p,k),BOXES[p],view.sign);\n}\nfunction placeTexts(p,view,share){\nconst lines=IS_LARGE?{large:[13,28,43],medium:[20,42,0],tiny:[35,35,0]}:{large:[18,37,56],medium:[19,40,59],tiny:[43,43,0]};\nconst isTiny=VIEW.detail===\"tiny\",place=placeOf(isTile(p)?p:p-SET.tiles);\n[view.name,view.mark,view.pc].forEach((text,i)=>setAttribute(text,\"y\",BOXES[p].y+lines[VIEW.detail][i]));\nsetText(view.name,isTiny?(isTile(p)?place:share?\"\":\"sw\"):nameOf(p));\nif(isTiny&&share)setText(view.name,isTile(p)?share:share===\"0%\"?\"\":share);\nsetAttribute(view.sign,\"height\",0);\n}\nfunction drawSign(kind,box,sign){\nif(VIEW.detail!==\"tiny\")return;\nconst [from,high]=barOf(kind,22),x=box.x+box.width-36;\nfor(const [key,value] of Object.entries({x,y:box.y+box.height/2-11+from,width:30,height:Math.max(high,3)}))setAttribute(sign,key,value);\n}\nfunction drawWait(p,k){\nconst arrow=VIEW.waits[p],w=VIEW.isHeat?-1:waitAt(p,k);\nconst isOn=isTold(k)&&OUTCOME.waits.some((wait)=>wait.processor===p);\nsetAttribute(arrow,\"class\",isOn?\"wait on\":\"wait\");\nsetAttribute(arrow,\"marker-end\",w<0?\"none\":isOn?\"url(#head4)\":\"url(#head3)\");\nif(w<0)return setAttribute(arrow,\"d\",\"\");\nconst [from,to]=waitEnds(p,w),cut=isOn?6:3;\nconst tip=[0,1].map((i)=>to[i]-cut*Math.sign(to[i]-from[i]));\nreturn setAttribute(arrow,\"d\",\"M\"+from.join(\" \")+\"L\"+tip.join(\" \"));\n}\nfunction drawPath(k){\nconst told=isTold(k)&&!VIEW.isHeat?OUTCOME.waits:[];\nconst points=told.map((wait)=>waitEnds(wait.processor,wait.wire).map((point)=>point.join(\" \")).join(\"L\")).join(\"L\");\nsetAttribute(VIEW.path,\"d\",points?\"M\"+points+(OUTCOME.word===\"deadlock\"?\"Z\":\"\"):\"\");\nif(VIEW.isTagged===told.length>0)return;\nVIEW.isTagged=told.length>0;\nVIEW.tags.replaceChildren();\ntold.filter((wait)=>CHANNELS[wait.wire].length>80).forEach(buildTag);\n}\nfunction buildTag(wait){\nconst [from,to]=waitEnds(wait.processor,wait.wire),x=(from[0]+to[0])/2,y=(from[1]+to[1])/2;\nconst group=shape(\"g\",{class:\"tag\"},VIEW.tags);\nif(from[0]===to[0])group.setAttribute(\"transform\",\"rotate(-90 \"+x+\" \"+y+\")\");\nshape(\"rect\",{x:x-25,y:y-6.5,width:50,height:13,rx:3},group);\nshape(\"text\",{class:\"middle\",x,y:y+3.5},group).textContent=\"wire \"+wait.wire;\n}\nfunction drawWay(places){\nemptyBands(VIEW.way);\nfor(const{w,sent}of places)drawBand(VIEW.way,w,sent<RUN.first?\"<\"+RUN.first:String(sent),VIEW.isTagged?0.2:0.5);\n}\nfunction emptyBands(view){\nview.bands.replaceChildren();\nview.tags.replaceChildren();\n}\nfunction drawBand(view,w,text,share){\nconst channel=CHANNELS[w],track=trackOf(channel),[from,to]=[along(channel,track,0),along(channel,track,channel.length)];\nshape(\"path\",{d:\"M\"+from.join(\" \")+\"L\"+to.join(\" \")},view.bands);\nconst [x,y]=along(channel,track,channel.length*share);\nconst size=VIEW.detail===\"large\"?11:VIEW.detail===\"medium\"?19:26,width=(0.62*text.length+0.8)*size;\nconst tag=shape(\"g\",{class:\"tag of-way\"},view.tags);\nshape(\"rect\",{x:x-width/2,y:y-0.65*size,width,height:1.3*size,rx:3},tag);\nconst label=shape(\"text\",{class:\"middle\",x,y:y+0.36*size},tag);\nlabel.textContent=text;\nlabel.style.fontSize=size+\"px\";\n}\nfunction drawCritical(k,from,end){\nconst stretch=PAGE.hasPath?stretchAt(k):-1;\nif(!isNew(VIEW.critical,[PAGE.hasPath,VIEW.detail,VIEW.isHeat?from+\"-\"+end:stretch].join()))return;\nemptyBands(VIEW.critical);\nif(!PAGE.hasPath)return;\nif(VIEW.isHeat){\nconst turns=pathTurns(from,end),most=Math.max(...turns);\nturns.forEach((count,p)=>count&&drawCriticalBox(p,2+(8*count)/most));\nfor(const [w,count] of pathHops(from,end))drawBand(VIEW.critical,w,String(count),0.5);\n}else if(stretch>=0){\nconst{p,wire,from:since}=PATH[stretch];\ndrawCriticalBox(p,6);\nif(wire>=0)drawBand(VIEW.critical,wire,String(since-1),0.5);\n}\n}\nfunction drawCriticalBox(p,stroke){\nconst{x,y,width,height}=BOXES[p];\n"

unfoldable pub tail_4 : List ℕ
tail_4 = codes "shape(\"rect\",{class:\"turn\",x:x-5,y:y-5,width:width+10,height:height+10,rx:8,\"stroke-width\":stroke},VIEW.critical.bands);\n}\nconst LINE={first:RUN.begin,count:RUN.width,label:104,step:1,height:13,rows:[],range:null,drag:null,isDragged:false};\nconst OVERVIEW=26,RULER=18;\nconst topOfRow=(row)=>Math.round(row*LINE.height);\nconst timelineEnd=()=>LINE.first+LINE.count;\nconst xOf=(k)=>LINE.label+(k-LINE.first)*LINE.step;\nconst ROWS={\n\"all, by place\":()=>[...listOf(2*SET.tiles,(_,i)=>(i>>1)+(i % 2)*SET.tiles),...listOf(SET.ports.length,(_,i)=>2*SET.tiles+i)],\ntiles:()=>listOf(SET.tiles,(_,t)=>t),\nswitches:()=>listOf(SET.tiles,(_,t)=>SET.tiles+t),\nports:()=>listOf(SET.ports.length,(_,i)=>2*SET.tiles+i),\n\"the outcome's\":()=>[...OUTCOME.told],\n\"the word's\":()=>[...new Set(PAGE.way.flatMap(({w})=>[WIRES[w].from,WIRES[w].to]))],\n\"the path's\":()=>ROWS[\"all, by place\"]().filter((p)=>PATH.some((it)=>it.p===p)),\n};\nfunction colours(){\nconst style=getComputedStyle(document.documentElement),of=(name)=>style.getPropertyValue(\"--\"+name).trim();\nconst kinds=[\"\",of(\"fired-edge\"),of(\"stalled-edge\"),of(\"starved-edge\"),of(\"blocked-edge\"),of(\"edge\")];\nreturn{ink:of(\"ink\"),soft:of(\"soft\"),rule:of(\"rule\"),on:of(\"on\"),page:of(\"page\"),cell:of(\"cell\"),way:of(\"way\"),critical:of(\"critical\"),kinds};\n}\nfunction barOf(kind,height){\nconst third=Math.max(1,Math.floor((height-2)/3));\nswitch(kind){\ncase FIRED:return [1,height-2];\ncase STALLED:return [1+third,third];\ncase STARVED:return [height-1-third,third];\ncase BLOCKED:return [1,third];\ndefault:return [Math.floor(height/2),1];\n}\n}\nfunction drawBar(pen,kind,x,y,width,height,colour){\nconst [from,high]=barOf(kind,height);\npen.fillStyle=colour.kinds[kind];\npen.fillRect(x,y+from,width,high);\n}\nfunction penOf(canvas,width,height){\nconst ratio=window.devicePixelRatio||1,pen=canvas.getContext(\"2d\");\nObject.assign(canvas,{width:Math.round(width*ratio),height:Math.round(height*ratio)});\nObject.assign(canvas.style,{width:width+\"px\",height:height+\"px\"});\npen.scale(ratio,ratio);\nreturn pen;\n}\nconst typeSize=()=>parseFloat(getComputedStyle(document.documentElement).fontSize)/15;\nfunction sizeRows(isFitted,space){\nconst least=isFitted?2:Math.round(12*typeSize());\nconst height=Math.max(least,Math.min(Math.round(20*typeSize()),space/LINE.rows.length));\nLINE.height=height>8?Math.floor(height):height;\nLINE.label=Math.round(112*typeSize());\n}\nfunction drawTimeline(canvas,k,chosen){\nconst width=canvas.parentElement.clientWidth,height=LINE.height,colour=colours();\nconst pen=penOf(canvas,width,height*LINE.rows.length);\nLINE.step=(width-LINE.label-6)/LINE.count;\npen.textBaseline=\"middle\";\nif(LINE.step<1.5)drawAllShares(pen,canvas,width,colour);\ndrawRules(pen,width,colour);\nif(LINE.step>=1.5)LINE.rows.forEach((p,row)=>drawTurns(pen,p,topOfRow(row),topOfRow(row+1)-topOfRow(row),colour));\ndrawLabels(pen,chosen,colour);\ndrawClosing(pen,height*LINE.rows.length,colour);\ndrawPathInTime(pen,colour);\ndrawWayInTime(pen,colour);\nconst what=\"timeline: cycles \"+LINE.first+\" to \"+(timelineEnd()-1)+\" of \"+LINE.rows.length+\" processors\";\nsetAttribute(canvas,\"aria-label\",what+\"; the counts beside it have the same in numbers\");\ndrawRuler(width,colour);\ndrawNow(k);\n}\nfunction drawRules(pen,width,colour){\nif(LINE.height<=8)return;\npen.fillStyle=colour.rule;\nLINE.rows.forEach((_,row)=>pen.fillRect(0,(row+1)*LINE.height-1,width,1));\n}\nfunction drawNames(canvas,chosen){\nconst pen=canvas.getContext(\"2d\"),width=LINE.label-8,colour=colours();\npen.clearRect(0,0,width,LINE.height*LINE.rows.length);\ndrawRules(pen,width,colour);\ndrawLabels(pen,chosen,colour);\n}\nfunction drawLabels(pen,chosen,colour){\nconst height=LINE.height,size=Math.min(Math.max(height,10),11)*typeSize(),least=Math.ceil((size+1)/height),every=everyRow(least);\npen.font=size+\"px monospace\";\nconst isOn=(p)=>OUTCOME.cycles===RUN.end&&OUTCOME.told.has(p);\nLINE.rows.forEach((p,row)=>{\nif(p!==chosen&&row % every&&!(isOn(p)&&every===1))return;\nif(p!==chosen&&every>1&&Math.abs(row-LINE.rows.indexOf(chosen))<least)return;\npen.fillStyle=isOn(p)?colour.on:p===chosen?colour.ink:colour.soft;\npen.fillText((p===chosen?\">\":isOn(p)?\"!\":\" \")+nameOf(p),2,Math.max(size/2,row*height+height/2)+1);\n});\n}\nfunction everyRow(least){\nconst row=SET.columns*(document.getElementById(\"which-rows\").value===\"all, by place\"?2:1);\nreturn least>1?Math.ceil(least/row)*row:1;\n}\nfunction drawTurns(pen,p,y,height,colour){\nconst gap=LINE.step>=6?1:0,end=timelineEnd(),size=10*typeSize();\npen.font=size+\"px monospace\";\nfor(let k=LINE.first;k<end;){\nconst kind=turnAt(p,k);\nlet next=k+1;\nwhile(!gap&&next<end&&turnAt(p,next)===kind)next++;\ndrawBar(pen,kind,xOf(k),y,Math.max(1,(next-k)*LINE.step-gap),height,colour);\nconst name=kind===FIRED&&height>=size+1?instructionAt(p,k).split(\" \")[0]:\"\";\nif(name&&LINE.step>0.62*size*name.length+4){\npen.fillStyle=colour.page;\npen.fillText(name,xOf(k)+3,y+height/2+1);\n}\nk=next;\n}\n}\nfunction drawClosing(pen,height,colour){\nif(OUTCOME.cycles!==RUN.end||!OUTCOME.waits.length||CLOSED<LINE.first)return;\npen.fillStyle=colour.on;\npen.fillRect(xOf(CLOSED)-1,0,1,height);\n}\nfunction drawPathInTime(pen,colour){\nif(!PAGE.hasPath)return;\nconst line=new Path2D();\nfor(const points of pathLines())thinned(points).forEach(([x,y],i)=>(i?line.lineTo(x,y):line.moveTo(x,y)));\nfor(const [width,name] of [[4.5,\"page\"],[2.5,\"critical\"]]){\npen.lineWidth=width;\npen.strokeStyle=colour[name];\npen.stroke(line);\n}\n}\nfunction pathLines(){\nconst half=LINE.height/2,rows=new Map(LINE.rows.map((p,row)=>[p,row*LINE.height+half])),lines=[[]];\nfor(const{p,from,end}of stretchesIn(LINE.first-1,timelineEnd()+1)){\nconst y=rows.get(p),x=Math.max(LINE.label,xOf(from));\nif(y!==undefined)lines.at(-1).push([x,y],[Math.max(x,xOf(end)),y]);\nelse if(lines.at(-1).length)lines.push([]);\n}\nreturn lines;\n}\nfunction thinned(points){\nconst kept=[];\nfor(let i=0,end;i<points.length;i=end){\nlet low=i,high=i;\nfor(end=i+1;end<points.length&&Math.floor(points[end][0])===Math.floor(points[i][0]);end++){\nif(points[end][1]<points[low][1])low=end;\nif(points[end][1]>points[high][1])high=end;\n}\nfor(const at of new Set([i,Math.min(low,high),Math.max(low,high),end-1]))kept.push(points[at]);\n}\nreturn kept;\n}\nfunction drawWayInTime(pen,colour){\nconst half=LINE.height/2,at=(p,k)=>[xOf(k+0.5),LINE.rows.indexOf(p)*LINE.height+half];\npen.lineWidth=2;\nfor(const{w,sent,taken}of PAGE.way){\nconst{from,to}=WIRES[w],[x,y]=at(from,sent),end=at(to,taken===undefined?RUN.last:taken);\nif(y<0||end[1]<0||sent<RUN.first)continue;\npen.strokeStyle=pen.fillStyle=colour.way;\npen.beginPath();\npen.moveTo(x,y);\npen.lineTo(...end);\npen.stroke();\nfor(const [a,b] of taken===undefined?[[x,y]]:[[x,y],end]){\npen.beginPath();\npen.arc(a,b,Math.min(5,half),0,7);\npen.fill();\n}\n}\n}\nconst channels=(text)=>{\nconst digits=text.length===4?[...text.slice(1)].map((it)=>it+it).join(\"\"):text.slice(1);\nreturn [0,2,4].map((i)=>parseInt(digits.slice(i,i+2),16));\n};\nfunction pixelOf(text,page,share){\nconst ground=channels(page),[r,g,b]=channels(text).map((part,i)=>Math.round(part*share+ground[i]*(1-share)));\nreturn 0xff000000|(b<<16)|(g<<8)|r;\n}\nfunction pixelsOf({kinds,page}){\nreturn kinds.map((colour,kind)=>(kind&&kind<STOPPED?pixelOf(colour,page,kind===STARVED?0.55:1):pixelOf(page,page,1)));\n}\nfunction mixtureOf(kinds,before,behind,all){\nlet [r,g,b]=[0,0,0];\nfor(let kind=FIRED;kind<=STOPPED;kind++){\nconst share=(behind[kind]-before[kind])/all,pixel=kinds[kind];\nr+=share*(pixel&255);\ng+=share*((pixel>>8)&255);\nb+=share*((pixel>>16)&255);\n}\nreturn 0xff000000|(b<<16)|(g<<8)|r;\n}\nfunction drawAllShares(pen,canvas,width,colour){\nconst ratio=canvas.width/width,left=Math.round(LINE.label*ratio),columns=Math.round(LINE.count*LINE.step*ratio);\nconst image=pen.createImageData(columns,canvas.height),pixels=new Uint32Array(image.data.buffer),kinds=pixelsOf(colour);\nconst edges=listOf(columns+1,(_,x)=>LINE.first+Math.floor((x*LINE.count)/columns)),isLow=LINE.height*ratio<8;\nLINE.rows.forEach((p,row)=>{\nconst top=Math.round(row*LINE.height*ratio),high=Math.round((row+1)*LINE.height*ratio)-top-(LINE.height>8?1:0);\nfillShares(pixels,columns,[p],edges,top,high,kinds,isLow);\n});\npen.putImageData(image,left,0);\n}\nfunction fillShares(pixels,columns,processors,edges,top,high,kinds,isLow){\nlet before=sumOf(processors,edges[0]),behind=sumOf(processors,edges[0]),most=edges[0];\nfor(let x=0;x<columns;x++){\nconst end=Math.max(edges[x+1],edges[x]+1),all=(end-edges[x])*processors.length;\nif(x&&edges[x]!==edges[x-1])[before,behind]=[behind,before];\nif(end!==most)sumInto(behind,processors,end);\nmost=end;\nlet y=top+high,sum=0;\nif(isLow){\nconst pixel=mixtureOf(kinds,before,behind,all);\nwhile(y>top)pixels[--y*columns+x]=pixel;\ncontinue;\n}\nfor(const kind of [FIRED,STALLED,STARVED]){\nsum+=behind[kind]-before[kind];\nfor(const to=top+high-Math.round((sum/all)*high);y>to;)pixels[--y*columns+x]=kinds[kind];\n}\nconst blocked=top+Math.round(((behind[BLOCKED]-before[BLOCKED])/all)*high);\nfor(let up=top;up<blocked&&up<y;up++)pixels[up*columns+x]=kinds[BLOCKED];\nfor(let up=Math.max(top,blocked);up<y;up++)pixels[up*columns+x]=kinds[0];\n}\n}\nfunction sumInto(counts,processors,k){\ncounts.fill(0);\nfor(const p of processors)addTurns(counts,p,k);\nreturn counts;\n}\nconst sumOf=(processors,k)=>sumInto([0,0,0,0,0,0],processors,k);\nfunction niceStep(least){\nconst power=10**Math.floor(Math.log10(Math.max(1,least)));\nreturn [1,2,5,10].map((it)=>it*power).find((it)=>it>=least);\n}\nfunction drawRuler(width,colour){\nconst size=11*typeSize(),height=RULER*typeSize(),pen=penOf(document.getElementById(\"ruler\"),width,height);\nconst digits=String(timelineEnd()).length,step=niceStep((digits+2)*0.62*size/LINE.step),small=Math.max(1,step/5);\npen.font=size+\"px monospace\";\npen.textBaseline=\"middle\";\npen.fillStyle=colour.soft;\npen.fillText(\" cycle\",2,height/2);\nfor(let k=Math.ceil(LINE.first/small)*small;k<timelineEnd();k+=small){\nconst isNamed=k % step===0,x=xOf(k);\npen.fillStyle=isNamed?colour.soft:colour.rule;\npen.fillRect(x,isNamed?0:height-5,1,height);\npen.fillStyle=colour.ink;\nif(isNamed&&x+digits*0.62*size<width)pen.fillText(String(k),x+3,height/2);\n}\n}\nfunction drawOverview(){\nconst canvas=document.getElementById(\"overview\"),width=document.getElementById(\"rows\").clientWidth,colour=colours(),height=OVERVIEW*typeSize();\nconst pen=penOf(canvas,width,height),ratio=canvas.width/width;\nconst columns=Math.round((width-LINE.label-6)*ratio),image=pen.createImageData(columns,canvas.height);\nconst edges=listOf(columns+1,(_,x)=>RUN.begin+Math.floor((x*RUN.width)/columns));\nfillShares(new Uint32Array(image.data.buffer),columns,LINE.rows,edges,0,canvas.height,pixelsOf(colour),false);\npen.putImageData(image,Math.round(LINE.label*ratio),0);\npen.font=11*typeSize()+\"px monospace\";\npen.textBaseline=\"middle\";\npen.fillStyle=colour.soft;\npen.fillText(\" together\",2,height/2);\n}\nconst overviewStep=()=>(document.getElementById(\"rows\").clientWidth-LINE.label-6)/RUN.width;\nfunction drawNow(k){\nconst place=(id,from,to,isSeen)=>{\nconst style=document.getElementById(id).style;\nObject.assign(style,{left:from+\"px\",width:Math.max(2,to-from)+\"px\",display:isSeen?\"\":\"none\"});\nreturn style;\n};\nconst height=LINE.height*LINE.rows.length+\"px\",now=Math.floor(xOf(k)),{range}=LINE,most=timelineEnd();\nplace(\"now\",now-2,now+Math.max(3,Math.ceil(LINE.step)+1),k>=LINE.first&&k<most).height=height;\nconst from=range?Math.max(LINE.first,range.from):0,end=range?Math.min(most,range.end):0;\nfor(const id of [\"span\",\"span-ruler\"])place(id,xOf(from),xOf(end),from<end).height=id===\"span\"?height:\"\";\nconst step=overviewStep(),x=(cycle)=>LINE.label+(cycle-RUN.begin)*step;\nplace(\"window\",x(LINE.first),x(most),true);\nplace(\"now-overview\",x(k)-1,x(k)+1,true);\nplace(\"states\",x(RUN.first),x(RUN.last+1),RUN.positions<RUN.width);\nconst flag=document.getElementById(\"flag\");\nflag.textContent=k;\nflag.style.display=k>=LINE.first&&k<most?\"\":\"none\";\nflag.style.left=Math.max(LINE.label-10,Math.min(now-2,document.getElementById(\"rows\").clientWidth-flag.offsetWidth))+\"px\";\n}\nconst clampFirst=(first)=>Math.max(RUN.begin,Math.min(RUN.end+1-LINE.count,Math.round(first)));\nfunction followCycle(k,toMiddle){\nconst isIn=k>=LINE.first&&k<timelineEnd();\nif(isIn&&!toMiddle)return false;\nLINE.first=clampFirst(k-Math.floor(LINE.count/2));\nreturn true;\n}\nfunction setCount(count){\nLINE.count=Math.max(Math.min(16,RUN.width),Math.min(RUN.width,Math.round(count)));\n}\nfunction zoomTimeline(factor,k){\nsetCount(LINE.count*factor);\nfollowCycle(k,true);\n}\nfunction zoomAt(factor,x){\nconst k=LINE.first+(x-LINE.label)/LINE.step,share=(k-LINE.first)/LINE.count;\nsetCount(LINE.count*factor);\nLINE.first=clampFirst(k-share*LINE.count);\n}\nfunction showCycles(from,end){\nsetCount(end-from);\nLINE.first=clampFirst(from-(LINE.count-(end-from))/2);\n}\nconst chosenRange=()=>LINE.range||{from:LINE.first,end:Math.min(timelineEnd(),Math.max(LINE.first+1,OUTCOME.cycles))};\nfunction pointedAt(canvas,event){\nconst{left,top}=canvas.getBoundingClientRect(),x=event.clientX-left-LINE.label;\nconst row=Math.floor((event.clientY-top)/LINE.height),k=LINE.first+Math.floor(x/LINE.step);\nreturn{p:LINE.rows[Math.max(0,Math.min(LINE.rows.length-1,row))],k:x<0?-1:Math.max(RUN.begin,Math.min(RUN.end,k))};\n}\nfunction showRow(p){\nconst box=document.getElementById(\"rows\"),y=LINE.rows.indexOf(p)*LINE.height;\nif(y<0)return;\nif(y<box.scrollTop||y+LINE.height>box.scrollTop+box.clientHeight)box.scrollTop=y-(box.clientHeight-LINE.height)/2;\n}\nfunction make(name,properties,...content){\nconst element=document.createElement(name);\nfor(const key in properties){\nif(key in element)element[key]=properties[key];\nelse element.setAttribute(key,properties[key]);\n}\nelement.append(...content);\nreturn element;\n}\nconst row=(name,...cells)=>make(\"tr\",{className:name},...cells.map((cell)=>(cell instanceof HTMLTableCellElement?cell:make(\"td\",{},cell))));\nconst number=(text)=>make(\"td\",{className:\"num\"},String(text));\nconst region=(id,label,table)=>make(\"div\",{id,className:\"scroll\",tabIndex:0,role:\"region\",\"aria-label\":label},table);\nconst linkTo=(text,action)=>make(\"button\",{className:\"plain\",type:\"button\",onclick:action},text);\nconst wordText=(value)=>(PAGE.isDecimal?String(value|0):hex(value));\nfunction panelOf(p,k){\nconst turn=make(\"span\",{className:\"kind \"+turnClass(p,k)},turnWord(p,k));\nconst head=make(\"h2\",{},nameOf(p)+\" \",make(\"span\",{className:\"soft\"},\"#\"+p+\" \"),turn);\nconst parts=[head,make(\"p\",{id:\"does\"},sentenceOf(p,k,wordText))];\nif(!hasState(k))return [...parts,noState(k),...turnParts(p,k)];\nif(isPort(p))parts.push(...portWords(p,k));\nelse parts.push(make(\"p\",{className:\"soft\"},countsOf(p,k)),...programParts(p,k));\nparts.push(...wireParts(p,k));\nif(isTile(p))parts.push(...memoryParts(p,k));\nreturn [...parts,...turnParts(p,k)];\n}\nconst noState=(k)=>make(\"p\",{className:\"soft\"},\"Its registers and values in this cycle are not on this page: \",command(\"rawgrid explore --whole --from \"+k));\nconst lead=(text,title,action)=>make(\"button\",{className:\"value\",type:\"button\",title,onclick:action},text);\n"

unfoldable pub tail_5 : List ℕ
tail_5 = codes "const countsOf=(p,k)=>\"count \"+stepsAt(p,k)+\", \"+pcText(p,k)+(missesAt(p,k)?\", misses \"+missesAt(p,k):\"\");\nfunction programParts(p,k){\nif(!programOf(p).length)return [make(\"p\",{},\"It has no program.\")];\nreturn [programTable(p,k),make(\"h3\",{},\"registers\"),registersOf(p,k)];\n}\nfunction programTable(p,k){\nconst program=programOf(p),pc=pcAt(p,k),next=turnAt(p,k)===FIRED?writtenIn(RUN.pcs[p],k):-1;\nconst first=program.length<=150?0:Math.max(0,pc-60),end=program.length<=150?program.length:Math.min(program.length,pc+90);\nconst body=make(\"tbody\",{});\nif(first)body.append(row(\"\",make(\"td\",{colSpan:3},first+\" instructions before\")));\nconst does=[\"\",\"now\",\"stalled\",\"waits\",\"waits\",\"stopped\"][turnAt(p,k)];\nfor(let i=first;i<end;i++){\nbody.append(...labelRows(p,i),instructionRow(p,i,i===pc?does:\"\",i===next));\n}\nif(end<program.length)body.append(row(\"\",make(\"td\",{colSpan:3},program.length-end+\" instructions behind\")));\nelse body.append(...labelRows(p,end));\nreturn region(\"code\",\"program\",make(\"table\",{},body));\n}\nconst labelRows=(p,i)=>(SET.labels[p]||[]).filter((it)=>it.i===i).map(({name})=>row(\"label\",\"\",make(\"td\",{colSpan:2},name+\":\")));\nfunction instructionRow(p,i,does,isNext){\nconst notes=[does,isNext?\"next\":\"\",lineText(p,i)].filter(Boolean).join(\", \");\nconst line=row(does?\"now\":isNext?\"next\":\"\",number((does?\"> \":\"\")+i),programOf(p)[i],make(\"td\",{className:\"soft\"},notes));\nif(does)line.setAttribute(\"aria-current\",\"step\");\nreturn line;\n}\nfunction registersOf(p,k){\nconst box=make(\"div\",{id:\"registers\"});\nfor(let r=0;r<(isTile(p)?32:4);r++){\nconst history=RUN.registers[p][r];\nif(isTile(p)&&!history)continue;\nconst old=registerAt(p,r,k),value=writtenIn(history,k),isNew=value!==undefined;\nconst name=(isTile(p)?\"$\":\"r\")+r,text=name.padEnd(4,\"\\u00a0\");\nconst written=history&&countBefore(history,k)&&history.cycles[countBefore(history,k)-1]>=RUN.first;\nconst shown=written?lead(wordText(old),\"to the cycle in which \"+name+\" was written\",()=>toOrigin(p,history,k)):wordText(old);\nbox.append(make(\"span\",{className:isNew?\"now\":old?\"\":\"soft\"},text,shown,isNew?\" becomes \"+wordText(value):\"\"));\n}\nif(isTile(p))box.append(make(\"span\",{className:\"soft rest\"},box.childNodes.length?\"all others 0\":\"all 0\"));\nreturn box;\n}\nfunction toOrigin(p,history,k){\njump(history.cycles[countBefore(history,k)-1],p);\n}\nfunction addressesOf(t){\nconst all=new Set([...RUN.memories[t].keys(),...(SET.data[t]?SET.data[t].keys():[])]);\nfor(const show of SET.shows){\nif(show.tile===t)for(let i=0;i<show.count;i++)all.add(show.address+4*i);\n}\nreturn [...all].sort((a,b)=>a-b);\n}\nfunction memoryParts(t,k){\nconst all=addressesOf(t);\nif(!all.length)return [];\nconst loaded=writtenIn(RUN.loads[t],k),stored=writtenIn(RUN.stores[t],k),body=make(\"tbody\",{});\nconst touched=all.findIndex((address)=>address===loaded||address===stored);\nconst first=Math.max(0,Math.min(touched-100,all.length-200));\nfor(const address of all.slice(first,first+200)){\nconst does=address===stored?\"becomes \"+wordText(wordAt(t,address,k+1)):address===loaded?\"is loaded\":\"\";\nconst history=RUN.memories[t].get(address),count=history?countBefore(history,k):0,text=wordText(wordAt(t,address,k));\nconst isWritten=count&&history.cycles[count-1]>=RUN.first;\nconst shown=isWritten?lead(text,\"to the cycle in which it was stored\",()=>toOrigin(t,history,k)):text;\nbody.append(row(does?\"now\":\"\",\"0x\"+hex(address),shown,does));\n}\nconst part=all.length>200?\": \"+all.length+\" words, here \"+first+\" to \"+(first+199):\"\";\nreturn [make(\"h3\",{},\"memory touched, given or shown\"+part),region(\"words\",\"memory\",make(\"table\",{},body))];\n}\nfunction wireParts(p,k){\nconst body=make(\"tbody\",{});\nconst add=(w,way,end)=>{\nif(RUN.sent[w].values.length||waitAt(p,k)===w)body.append(wireRow(p,w,k,way+\" \"+WIRES[w].net+\":\"+end));\n};\nfor(const w of INPUTS[p])add(w,\"in\",WIRES[w].into);\nfor(const w of OUTPUTS[p])add(w,\"out\",WIRES[w].out);\nreturn body.childNodes.length?[make(\"h3\",{},\"wires, front value first\"),make(\"table\",{},body)]:[];\n}\nfunction wireRow(p,w,k,end){\nconst sent=sentIn(w,k),taken=takenIn(w,k).length;\nconst notes=[taken?taken+\" taken\":\"\",sent===undefined?\"\":\"sent\",waitAt(p,k)===w?\"waits\":\"\"];\nconst does=notes.filter(Boolean).join(\", \"),cell=make(\"td\",{className:\"wrap\"}),from=countBefore(RUN.taken[w],k);\nvaluesAt(w,k).forEach((value,i)=>cell.append(i?\" \":\"\",lead(wordText(value),\"follow this word\",()=>follow({w,i:from+i}))));\nif(sent!==undefined)cell.append(cell.childNodes.length?\" \":\"\",lead(\"+ \"+wordText(sent),\"follow this word\",()=>follow(placesOn(w,k).at(-1))));\nif(!cell.childNodes.length)cell.append(\"-\");\nreturn row(does?\"now\":\"\",end,\"wire \"+w,nameOf(otherEnd(w,p)),cell,make(\"td\",{className:\"wrap\"},does));\n}\nfunction portWords(p,k){\nconst port=portOf(p),done=stepsAt(p,k),w=[...INPUTS[p],...OUTPUTS[p]][0],body=make(\"tbody\",{});\nconst before=isSource(p)?0:RUN.stepsBefore[p];\nconst words=isSource(p)?port.words:RUN.sent[w].values.slice(0,countBefore(RUN.taken[w],k+1));\nif(before)body.append(row(\"\",make(\"td\",{colSpan:3},before+\" words before cycle \"+RUN.first+\" are not on this page\")));\nconst first=Math.max(0,Math.min(done-before-40,words.length-80));\nwords.slice(first,first+80).forEach((word,i)=>{\nconst place=before+first+i,isNow=place===done&&turnAt(p,k)===FIRED;\nbody.append(row(isNow?\"now\":\"\",number(place),wordText(word),portNote(p,place<done,isNow)));\n});\nconst head=isSource(p)?\"words of the source: \"+done+\" of \"+port.words.length+\" sent\":\"words of the sink: \"+done+\" got, room for \"+port.room;\nreturn [make(\"h3\",{},head),make(\"table\",{},body)];\n}\nfunction portNote(p,isDone,isNow){\nif(isNow)return isSource(p)?\"sent now\":\"taken now\";\nif(isDone)return isSource(p)?\"sent\":\"got\";\nreturn \"to come\";\n}\nconst kindHeads=()=>KINDS.slice(1).map((kind)=>make(\"th\",{className:\"num\",scope:\"col\"},kind));\nfunction turnParts(p,k){\nconst table=make(\"table\",{},row(\"\",make(\"th\",{}),...kindHeads()));\ntable.append(row(\"\",RUN.begin?\"since cycle \"+RUN.begin:\"so far\",...turnsBefore(p,k).map(number)));\ntable.append(row(\"\",\"whole run\",...OUTCOME.totals[p].map(number)));\nconst waits=OUTCOME.waited.filter((wait)=>wait.processor===p);\nconst lines=waits.map((wait)=>make(\"p\",{},\"wire \"+wait.wire+\" for \"+nameOf(wait.other)+\": \"+many(wait.cycles,\"cycle\")));\nreturn [make(\"h3\",{},\"cycles\"),table,...(lines.length?[make(\"h3\",{},\"waited in the whole run\"),...lines]:[])];\n}\nfunction countParts(k){\nconst table=make(\"table\",{},row(\"\",make(\"th\",{scope:\"col\"},\"processor\"),...kindHeads()));\nfor(let p=0;p<SET.processors;p++)table.append(row(\"\",chooser(p),...turnsBefore(p,k).map(number)));\nreturn [table];\n}\nfunction cycleParts(k){\nconst table=make(\"table\",{});\nfor(let p=0;p<SET.processors;p++)table.append(row(\"\",chooser(p),make(\"td\",{className:\"wrap\"},sentenceOf(p,k,wordText))));\nreturn [table];\n}\nfunction storyOf(k){\nconst box=make(\"div\",{className:knowsEnd()?\"story \"+OUTCOME.word:\"story part\"});\nif(!knowsEnd())box.append(...storyOfPart());\nelse if(!isTold(k))box.append(storyOfRest());\nelse box.append(...storyOfEnd());\nif(RUN.positions<RUN.width)box.append(storyOfStates());\nreturn box;\n}\nconst storyOfRest=()=>make(\"p\",{},\"At rest after \"+many(OUTCOME.cycles,\"cycle\")+\": \"+OUTCOME.word+\". \",linkTo(\"Show the end\",()=>goTo(RUN.end)));\nconst command=(text)=>make(\"code\",{},...text.split(\" \").flatMap((word,i)=>[i?\" \":\"\",make(\"span\",{className:\"command\"},word)]));\nfunction storyOfStates(){\nconst states=linkTo(\"cycles \"+RUN.first+\" to \"+RUN.last,()=>goTo(RUN.first));\nconst others=\"; of all others it has what each processor did, and what was sent where.\";\nreturn make(\"p\",{className:\"soft\"},\"Registers, memory and values are on this page for the \",states,others);\n}\nfunction storyOfPart(){\nconst from=Math.max(0,OUTCOME.cycles-500);\nreturn [\nmake(\"h2\",{},\"A part of the run\"),\nmake(\"p\",{},\"This page has the cycles \"+RUN.first+\" to \"+RUN.last+\". The grid is not at rest after them: the run goes on to cycle \"+OUTCOME.cycles+\".\"),\nmake(\"p\",{},\"It ends as \"+OUTCOME.word+\": \"+outcomeSentence()+\".\"),\nmake(\"p\",{},\"A page with its end: \",command(\"rawgrid explore --from \"+from)),\n];\n}\nfunction storyOfEnd(){\nconst isOfOne=OUTCOME.word===\"trapped\"||OUTCOME.word===\"limit\";\nconst parts=[make(\"h2\",{},(isOfOne?\"\":OUTCOME.word+\": \")+outcomeSentence())];\nif(OUTCOME.waits.length)parts.push(waitList(),...waitsTold());\nif(isOfOne)parts.push(standsAt(Number(OUTCOME.words[0])),make(\"p\",{},CAUSES[OUTCOME.words[1]]||\"\"));\nreturn parts;\n}\nconst CAUSES={\nmisaligned:\"The address of its load or store is no multiple of the size.\",\n\"past-memory\":\"The address of its load or store lies past the last byte of memory.\",\npc:\"There is no instruction at its pc.\",\n};\nconst chooser=(p)=>linkTo(nameOf(p),()=>choose(p));\nfunction waitList(){\nconst list=make(\"ol\",{});\nfor(const{processor,wire}of OUTCOME.waits){\nconst instruction=instructionAt(processor,RUN.end);\nconst at=instruction?make(\"span\",{className:\"soft\"},\" Its instruction: \",make(\"code\",{},instruction)):\"\";\nlist.append(make(\"li\",{},chooser(processor),\" \"+whyWaits(processor,wire,RUN.end)+\".\",at));\n}\nif(OUTCOME.ends>=0)list.append(make(\"li\",{},chooser(OUTCOME.ends),\" is \"+OUTCOME.endMark+\": it takes no more steps, so nobody before it goes on.\"));\nreturn list;\n}\nfunction waitsTold(){\nconst since=linkTo(\"cycle \"+CLOSED,()=>goTo(CLOSED));\nconst others=CLOSED<RUN.end?\"; the others came to rest by cycle \"+RUN.end+\".\":\".\";\nconst before=CLOSED===RUN.begin&&CLOSED>0?\" or before, which this page does not have\":\"\";\nconst held=make(\"p\",{},OUTCOME.ends<0?\"These waits hold since \":\"All of this holds since \",since,before+others);\nif(OUTCOME.word!==\"deadlock\")return [held];\nreturn [make(\"p\",{},\"Each waits for the next and the last one for the first, so none of them ever goes on.\"),held];\n}\nfunction standsAt(p){\nconst instruction=instructionAt(p,RUN.end),place=hasState(RUN.end)?\" at \"+pcText(p,RUN.end):\"\";\nreturn make(\"p\",{},chooser(p),\" stands\"+place+(instruction?\": \"+instruction:\"\"));\n}\nfunction sharesTable(groups,from,end){\nconst table=make(\"table\",{},row(\"\",make(\"th\",{}),...groups.map(([name])=>make(\"th\",{className:\"num\",scope:\"col\"},name))));\nconst sums=groups.map(([,processors])=>sumOver(processors,from,end));\nconst cell=(count,all)=>make(\"td\",{className:\"num\"},String(count),make(\"span\",{className:\"soft\"},percent(count/all).padStart(5,\"\\u00a0\")));\nKINDS.slice(1).forEach((kind,i)=>table.append(row(\"\",kind,...sums.map((counts,n)=>cell(counts[i+1],Math.max(1,(end-from)*groups[n][1].length))))));\nreturn table;\n}\nfunction rangeTable({from,end}){\nconst groups=[[\"tiles\",ROWS.tiles()],[\"switches\",ROWS.switches()],[\"ports\",ROWS.ports()],[nameOf(PAGE.p),[PAGE.p]]];\nreturn sharesTable(groups.filter(([,processors])=>processors.length),from,end);\n}\nfunction rangeParts({from,end}){\nconst cycles=end-from,table=rangeTable({from,end});\nconst actions=[button(\"zoom to them\",zoomToRange),button(\"show in grid\",()=>setMode(\"shares\")),button(\"let go (Esc)\",()=>setRange(null))];\nconst head=make(\"h2\",{},\"cycles \"+from+\" to \"+(end-1)+\" \",make(\"span\",{className:\"soft\"},many(cycles,\"cycle\")));\nreturn [head,make(\"div\",{className:\"row\"},...actions),table,...mostSent(from,end),...mostWaited(from,end)];\n}\nconst button=(text,action)=>make(\"button\",{type:\"button\",onclick:action},text);\nfunction sumOver(processors,from,end){\nconst before=sumOf(processors,from);\nreturn sumOf(processors,end).map((count,kind)=>count-before[kind]);\n}\nconst MOST=8;\nconst topOf=(counts)=>counts.sort((a,b)=>b.count-a.count).slice(0,MOST);\nfunction mostSent(from,end){\nconst all=WIRES.map((_,w)=>({w,count:sendsFrom(w,from,end)})).filter((it)=>it.count),sum=all.reduce((a,it)=>a+it.count,0);\nconst table=make(\"table\",{});\nfor(const{w,count}of topOf(all))table.append(row(\"\",\"wire \"+w,chooser(WIRES[w].from),\"to\",chooser(WIRES[w].to),number(count)));\nreturn [make(\"h3\",{},many(sum,\"value\")+\" sent on \"+many(all.length,\"wire\")+(all.length>MOST?\", most on\":\"\")),table];\n}\nfunction mostWaited(from,end){\nconst table=make(\"table\",{}),all=[],{waits}=RUN;\nfor(let p=0;p<SET.processors;p++){\nconst counts=new Uint32Array(WIRES.length),at=p*RUN.width-RUN.begin;\nfor(let i=at+from,last=at+end;i<last;i++)if(waits[i]>=0)counts[waits[i]]++;\nfor(const w of [...INPUTS[p],...OUTPUTS[p]])if(counts[w])all.push({p,w,count:counts[w]});\n}\nfor(const{p,w,count}of topOf(all)){\nconst kind=WIRES[w].to===p?\"starved by\":\"blocked by\";\ntable.append(row(\"\",chooser(p),kind,chooser(otherEnd(w,p)),\"wire \"+w,number(count)));\n}\nreturn all.length?[make(\"h3\",{},\"longest waits\"),table]:[];\n}\nfunction wayParts(way){\nconst list=make(\"ol\",{}),first=way[0],isKnown=first.sent>=RUN.first;\nlist.append(isKnown?hop(first.sent,WIRES[first.w].from,madeBy(first)):make(\"li\",{},\"sent before cycle \"+RUN.first));\nfor(const place of way){\nconst{w,taken}=place,to=WIRES[w].to;\nif(taken===undefined)list.append(make(\"li\",{},\"it is still on wire \"+w+\" to \"+nameOf(to)+\" after cycle \"+RUN.last));\nelse list.append(hop(taken,to,usedBy(place)));\n}\nconst actions=[button(\"show in the timeline\",lookAtWay),button(\"let go (Esc)\",()=>follow(null))];\nreturn [make(\"h2\",{},\"the way of \"+wordText(first.value)),list,make(\"div\",{className:\"row\"},...actions)];\n}\nconst hop=(k,p,text)=>make(\"li\",{},linkTo(\"cycle \"+k,()=>jump(k,p)),\": \"+nameOf(p)+\" \"+text);\nfunction madeBy({w,sent}){\nconst p=WIRES[w].from,by=instructionAt(p,sent);\nreturn(isPort(p)?\"gives it\":\"makes it by \"+by)+\" and sends it on wire \"+w;\n}\nfunction usedBy({w,taken}){\nconst p=WIRES[w].to,on=isSwitch(p)?placesBehindOf(w,taken):[];\nif(on.length)return \"sends it on to \"+on.map((it)=>nameOf(WIRES[it.w].to)+\" on wire \"+it.w).join(\" and \");\nreturn isPort(p)?\"gets it\":\"takes it: \"+instructionAt(p,taken)+(isTile(p)?\"; \"+whatItGives(p,taken):\"\");\n}\nconst placesBehindOf=(w,taken)=>placesBehind({w,i:countBefore(RUN.taken[w],taken)});\nfunction whatItGives(p,k){\nconst sends=OUTPUTS[p].filter((w)=>sentIn(w,k)!==undefined).map((w)=>\"sends \"+wordText(sentIn(w,k))+\" on wire \"+w);\nconst written=RUN.registers[p].map((history,r)=>[r,writtenIn(history,k)]).filter(([,value])=>value!==undefined);\nconst writes=written.map(([r,value])=>\"$\"+r+\" becomes \"+wordText(value)),stored=writtenIn(RUN.stores[p],k);\nconst stores=stored===undefined?[]:[\"the word at 0x\"+hex(stored)+\" becomes \"+wordText(wordAt(p,stored,k+1))];\nreturn [...sends,...writes,...stores].join(\"; \")||\"it decides where to go\";\n}\nconst PAGE={\nk:RUN.first,p:0,zoom:1,isDecimal:false,timer:0,frame:0,story:\"\",\nway:[],trail:[],\nhasPath:false,hasKeys:true,isLarge:false,isPrinted:false,\n};\nconst byId=(id)=>document.getElementById(id);\nfunction draw(){\nconst{k,p}=PAGE;\nif(followCycle(k,false))drawTime();\nelse drawNow(k);\ndrawGrid(k,p);\ndrawStory();\ndrawPanel();\ndrawTables();\nbyId(\"slide\").value=k;\nbyId(\"cycle\").value=k;\nsetAttribute(byId(\"slide\"),\"aria-valuetext\",summaryOf(k));\nsetText(byId(\"say\"),summaryOf(k));\nkeepAddress();\n}\nfunction drawTime(){\ndrawTimeline(byId(\"canvas\"),PAGE.k,PAGE.p);\nif(VIEW.isHeat)drawShares();\n}\nfunction drawShares(){\nnameShares();\ndrawGrid(PAGE.k,PAGE.p);\n}\nfunction nameShares(){\nconst{from,end}=chosenRange();\n"

unfoldable pub tail_6 : List ℕ
tail_6 = codes "setText(byId(\"which\"),\"cycles \"+from+\" to \"+(end-1)+\" fired; width of a wire: up to \"+many(mostSends(from,end),\"word\"));\n}\nfunction keepAddress(){\nconst{range}=LINE,{k,p,hasPath,isLarge,hasKeys}=PAGE;\nconst chosen=range?\"&range=\"+range.from+\"-\"+range.end:\"\";\nconst address=\"#cycle=\"+k+\"&p=\"+p+chosen+(hasPath?\"&path=on\":\"\")+(isLarge?\"&large=on\":\"\")+(hasKeys?\"\":\"&keys=off\");\nif(location.hash===address)return;\ntry{\nhistory.replaceState(null,\"\",address);\n}catch{\n}\n}\nfunction drawStory(){\nconst shown=isTold(PAGE.k)+\":\"+knowsEnd();\nif(PAGE.story===shown)return;\nPAGE.story=shown;\nbyId(\"story\").replaceChildren(storyOf(PAGE.k));\n}\nfunction drawPanel(){\nconst boxes=[\"code\",\"words\"],tops=boxes.map((id)=>(byId(id)?byId(id).scrollTop:0));\nbyId(\"panel\").replaceChildren(...panelOf(PAGE.p,PAGE.k));\nboxes.forEach((id,i)=>byId(id)&&keepInSight(byId(id),tops[i]));\n}\nfunction keepInSight(box,top){\nconst marked=box.querySelector(\".now\");\nbox.scrollTop=top;\nif(marked&&(marked.offsetTop<top||marked.offsetTop>top+box.clientHeight-24))box.scrollTop=marked.offsetTop-box.clientHeight/2;\n}\nconst TABLES={counts:countParts,\"words-of-cycle\":cycleParts,path:pathParts};\nfunction drawTable(id){\nif(byId(id).open)byId(id).lastElementChild.replaceChildren(...TABLES[id](PAGE.k));\n}\nfunction drawTables(){\nfor(const id in TABLES)drawTable(id);\n}\nfunction drawRange(){\nconst{range}=LINE;\nbyId(\"range\").hidden=!range;\nbyId(\"range\").replaceChildren(...(range?rangeParts(range):[]));\n}\nfunction redraw(){\nif(PAGE.isPrinted)sizeRows(true,480);\nelse sizeRows(byId(\"fit\").checked,byId(\"rows\").clientHeight);\nfitGrid(byId(\"grid\"),byId(\"signs\"),PAGE.zoom);\ndrawWay(PAGE.way);\ndrawOverview();\ndrawTime();\ndraw();\n}\nfunction goTo(k){\nPAGE.k=Math.max(RUN.begin,Math.min(RUN.end,Math.round(k)||0));\ndraw();\n}\nfunction choose(p){\nPAGE.p=Math.max(0,Math.min(SET.processors-1,p));\nbyId(\"pick\").value=PAGE.p;\ndraw();\ndrawNames(byId(\"canvas\"),PAGE.p);\nif(LINE.range)byId(\"range\").querySelector(\"table\")?.replaceWith(rangeTable(LINE.range));\nshowRow(PAGE.p);\nshowBoxes(byId(\"grid\"),[PAGE.p]);\n}\nfunction jump(k,p){\nif(k===PAGE.k&&p===PAGE.p)return;\nPAGE.trail.push({k:PAGE.k,p:PAGE.p});\narrive(k,p);\n}\nfunction arrive(k,p){\nPAGE.k=Math.max(RUN.begin,Math.min(RUN.end,k));\nchoose(p);\nconst last=PAGE.trail.at(-1);\nbyId(\"return\").hidden=!last;\nif(last)setText(byId(\"return\"),\"back to \"+last.k);\n}\nfunction goBack(){\nconst{k,p}=PAGE.trail.pop();\narrive(k,p);\n}\nfunction goToStep(way){\nlet k=PAGE.k+way;\nwhile(k>=RUN.begin&&k<=RUN.end&&turnAt(PAGE.p,k)!==FIRED)k+=way;\nif(k>=RUN.begin&&k<=RUN.end)goTo(k);\n}\nconst goToNextStep=()=>goToStep(1);\nconst goToStepBefore=()=>goToStep(-1);\nfunction play(isOn){\nclearInterval(PAGE.timer);\nPAGE.timer=0;\nif(isOn&&PAGE.k===RUN.end)goTo(RUN.begin);\nif(isOn)PAGE.timer=setInterval(()=>(PAGE.k<RUN.end?goTo(PAGE.k+1):play(false)),1000/byId(\"speed\").value);\nsetText(byId(\"play\"),isOn?\"pause\":\"play\");\nsetAttribute(byId(\"say\"),\"aria-live\",isOn?\"off\":\"polite\");\n}\nfunction find(isForth){\nconst{message,hit}=hitFrom(byId(\"find\").value,PAGE.k,PAGE.p,isForth);\nsetText(byId(\"answer\"),message);\nbyId(\"answer\").title=message;\nif(hit)jump(hit.k,hit.p);\n}\nfunction follow(place){\nPAGE.way=place?wayOf(place):[];\nbyId(\"way\").hidden=!place;\nbyId(\"way\").replaceChildren(...(place?wayParts(PAGE.way):[]));\ndrawWay(PAGE.way);\nif(byId(\"which-rows\").value===\"the word's\")setRows();\ndrawTime();\nif(place)byId(\"way\").scrollIntoView({block:\"nearest\"});\n}\nfunction lookAtWay(){\nif(![...byId(\"which-rows\").options].some((it)=>it.value===\"the word's\"))byId(\"which-rows\").append(make(\"option\",{},\"the word's\"));\nbyId(\"which-rows\").value=\"the word's\";\nconst cycles=PAGE.way.flatMap(({sent,taken})=>[sent,taken]).filter((k)=>k>=RUN.first);\nshowCycles(Math.min(...cycles)-1,Math.max(...cycles)+2);\nbyId(\"fit\").checked=false;\nsetRows();\n}\nfunction setRange(range,isDrawn){\nconst most=Math.max(RUN.begin+1,Math.min(RUN.end+1,OUTCOME.cycles));\nconst from=range&&Math.max(RUN.begin,Math.min(range.from,most-1)),end=range&&Math.max(from+1,Math.min(range.end,most));\nLINE.range=range&&{from,end};\nif(isDrawn)return drawNow(PAGE.k);\ndrawRange();\ndrawNow(PAGE.k);\nif(VIEW.isHeat)drawShares();\nreturn keepAddress();\n}\nfunction setEdge(name){\nconst{from,end}=LINE.range||{from:PAGE.k,end:PAGE.k+1};\nsetRange(name===\"from\"?{from:PAGE.k,end:Math.max(end,PAGE.k+1)}:{from:Math.min(from,PAGE.k),end:PAGE.k+1});\n}\nfunction zoomToRange(){\nshowCycles(LINE.range.from,LINE.range.end);\nif(!followCycle(PAGE.k,false))return drawTime();\nshowCycles(LINE.range.from,LINE.range.end);\ngoTo(LINE.range.from);\nreturn drawTime();\n}\nfunction setMode(mode){\nbyId(\"mode\").value=mode;\nVIEW.isHeat=mode===\"shares\";\nbyId(\"signs\").classList.toggle(\"shares\",VIEW.isHeat);\nif(VIEW.isHeat)nameShares();\nfitGrid(byId(\"grid\"),byId(\"signs\"),PAGE.zoom);\ndrawWay(PAGE.way);\ndrawGrid(PAGE.k,PAGE.p);\n}\nfunction togglePath(){\nif(PAGE.hasPath===byId(\"path\").open)return;\nPAGE.hasPath=byId(\"path\").open;\ndrawTable(\"path\");\ndrawTime();\nif(!VIEW.isHeat)drawGrid(PAGE.k,PAGE.p);\nkeepAddress();\n}\nfunction zoomTime(factor){\nzoomTimeline(factor,PAGE.k);\ndrawTime();\n}\nfunction showAll(){\nLINE.count=RUN.width;\nLINE.first=RUN.begin;\ndrawTime();\n}\nfunction readAddress(){\nconst words=new URLSearchParams(location.hash.slice(1)),isNumber=(text)=>/^\\d{1,9}$/.test(text);\nif(isNumber(words.get(\"p\")))PAGE.p=Math.min(SET.processors-1,Number(words.get(\"p\")));\nif(isNumber(words.get(\"cycle\")))PAGE.k=Math.max(RUN.begin,Math.min(RUN.end,Number(words.get(\"cycle\"))));\nconst range=/^(\\d{1,9})-(\\d{1,9})$/.exec(words.get(\"range\"));\nif(range)setRange({from:Number(range[1]),end:Number(range[2])});\nsetLarge(words.get(\"large\")===\"on\");\nPAGE.hasPath=byId(\"path\").open=words.get(\"path\")===\"on\";\nPAGE.hasKeys=words.get(\"keys\")!==\"off\";\nbyId(\"keys\").checked=PAGE.hasKeys;\n}\nfunction setRows(){\nconst rows=ROWS[byId(\"which-rows\").value]();\nLINE.rows=rows.length?rows:ROWS[\"all, by place\"]();\nredraw();\nshowRow(PAGE.p);\n}\nconst KEYS={\nArrowLeft:(far)=>goTo(PAGE.k-(far?10:1)),\nArrowRight:(far)=>goTo(PAGE.k+(far?10:1)),\nHome:()=>goTo(RUN.begin),\nEnd:()=>goTo(RUN.end),\n\" \":()=>play(!PAGE.timer),\nEscape:()=>{\nfollow(null);\nsetRange(null);\n},\n};\nconst LETTERS={\nn:goToNextStep,\np:goToStepBefore,\n\",\":()=>choose(PAGE.p-1),\n\".\":()=>choose(PAGE.p+1),\n\"[\":()=>setEdge(\"from\"),\n\"]\":()=>setEdge(\"end\"),\n\"+\":()=>zoomTime(0.5),\n\"-\":()=>zoomTime(2),\n0:showAll,\n\"/\":()=>byId(\"find\").focus(),\n};\nconst takesText=(element)=>element.tagName===\"SELECT\"||(element.tagName===\"INPUT\"&&[\"number\",\"text\"].includes(element.type));\nconst takesSpace=(element)=>element.type===\"checkbox\"||[\"BUTTON\",\"SUMMARY\"].includes(element.tagName);\nfunction onKey(event){\nconst element=event.target;\nif(event.key===\"Escape\"&&takesText(element))return element.blur();\nif(event.ctrlKey||event.altKey||event.metaKey||takesText(element))return;\nconst box=VIEW.boxes.findIndex((view)=>view.group===element);\nif(event.key===\"Enter\"&&box>=0)choose(box);\nif(event.key===\" \"&&takesSpace(element))return;\nconst action=KEYS[event.key]||(PAGE.hasKeys&&LETTERS[event.key]);\nif(!action)return;\nevent.preventDefault();\naction(event.shiftKey);\n}\nconst on=(id,event,action,options)=>byId(id).addEventListener(event,action,options);\nfunction connectCycles(){\non(\"first\",\"click\",()=>goTo(RUN.begin));\non(\"back\",\"click\",()=>goTo(PAGE.k-1));\non(\"forth\",\"click\",()=>goTo(PAGE.k+1));\non(\"last\",\"click\",()=>goTo(RUN.end));\non(\"play\",\"click\",()=>play(!PAGE.timer));\non(\"speed\",\"change\",()=>PAGE.timer&&play(true));\non(\"before\",\"click\",goToStepBefore);\non(\"after\",\"click\",goToNextStep);\non(\"slide\",\"input\",(event)=>goTo(Number(event.target.value)));\non(\"cycle\",\"change\",(event)=>goTo(Number(event.target.value)));\non(\"search\",\"submit\",(event)=>{\nevent.preventDefault();\nfind(true);\n});\non(\"find\",\"keydown\",(event)=>{\nif(event.key!==\"Enter\"||!event.shiftKey)return;\nevent.preventDefault();\nfind(false);\n});\non(\"find-before\",\"click\",()=>find(false));\non(\"return\",\"click\",goBack);\n}\nfunction connectPanel(){\nconst zoomGrid=(factor)=>{\nPAGE.zoom=Math.min(6,Math.max(0.5,PAGE.zoom*factor));\nredraw();\nshowBoxes(byId(\"grid\"),[PAGE.p]);\n};\non(\"less\",\"click\",()=>zoomGrid(0.8));\non(\"more\",\"click\",()=>zoomGrid(1.25));\non(\"mode\",\"change\",(event)=>setMode(event.target.value));\non(\"pick\",\"change\",(event)=>choose(Number(event.target.value)));\non(\"decimal\",\"change\",(event)=>{\nPAGE.isDecimal=event.target.checked;\nif(PAGE.way.length)byId(\"way\").replaceChildren(...wayParts(PAGE.way));\ndraw();\n});\non(\"keys\",\"change\",(event)=>{\nPAGE.hasKeys=event.target.checked;\nkeepAddress();\n});\nfor(const id of [\"counts\",\"words-of-cycle\"])on(id,\"toggle\",()=>drawTable(id));\non(\"path\",\"toggle\",togglePath);\n}\nfunction connectViews(){\nfor(const name of [\"grid\",\"time\",\"panel\"]){\non(\"see-\"+name,\"click\",()=>{\nconst isHidden=document.body.classList.toggle(\"no-\"+name),other={grid:\"time\",time:\"grid\"}[name];\nif(isHidden&&other)showPart(other);\nsetAttribute(byId(\"see-\"+name),\"aria-pressed\",!isHidden);\nredraw();\n});\n}\non(\"large\",\"click\",()=>{\nsetLarge(!PAGE.isLarge);\nredraw();\n});\n}\nfunction showPart(name){\ndocument.body.classList.remove(\"no-\"+name);\nsetAttribute(byId(\"see-\"+name),\"aria-pressed\",true);\n}\nfunction setLarge(isLarge){\nPAGE.isLarge=isLarge;\ndocument.documentElement.classList.toggle(\"larger\",isLarge);\nsetAttribute(byId(\"large\"),\"aria-pressed\",isLarge);\n}\nfunction connectWindow(){\ndocument.addEventListener(\"keydown\",onKey);\nwindow.addEventListener(\"hashchange\",()=>{\nreadAddress();\nredraw();\nchoose(PAGE.p);\n});\nwindow.addEventListener(\"resize\",redraw);\nfor(const [name,isPrinted] of [[\"beforeprint\",true],[\"afterprint\",false]]){\nwindow.addEventListener(name,()=>{\nPAGE.isPrinted=isPrinted;\nredraw();\n});\n}\nmatchMedia(\"(prefers-color-scheme: dark)\").addEventListener(\"change\",()=>{\ndrawKeys();\ndrawOverview();\ndrawTime();\n});\n}\nfunction tellPlace(canvas,event){\nconst{p,k}=pointedAt(canvas,event),w=k<0?-1:waitAt(p,k),step=Math.ceil(1/LINE.step),end=Math.min(RUN.end,k+step);\nconst of=\"cycle \"+k+\", \"+nameOf(p)+\": \";\nif(k<0)return nameOf(p);\nif(step>1&&end>k)return \"cycles \"+k+\" to \"+(end-1)+\", \"+nameOf(p)+\": \"+sharesText(turnsFrom(p,k,end),end-k);\nreturn of+turnWord(p,k)+(w<0?\"\":\", wire \"+w)+(instructionAt(p,k)?\", \"+instructionAt(p,k):\"\");\n}\nfunction connectTimeline(){\nconst canvas=byId(\"canvas\");\non(\"in\",\"click\",()=>zoomTime(0.5));\non(\"out\",\"click\",()=>zoomTime(2));\non(\"all\",\"click\",showAll);\non(\"count-shown\",\"click\",()=>setRange({from:LINE.first,end:timelineEnd()}));\non(\"which-rows\",\"change\",setRows);\non(\"fit\",\"change\",redraw);\non(\"canvas\",\"click\",(event)=>{\nif(LINE.isDragged)return;\nconst{p,k}=pointedAt(canvas,event);\nif(k>=0)PAGE.k=k;\nchoose(p);\n});\non(\"canvas\",\"mousemove\",(event)=>{\nconst box=byId(\"hover\");\nsetText(box,tellPlace(canvas,event));\nbox.style.left=Math.max(0,Math.min(event.clientX+14,window.innerWidth-box.offsetWidth-8))+\"px\";\nbox.style.top=event.clientY-30+\"px\";\n});\non(\"canvas\",\"mouseleave\",()=>setText(byId(\"hover\"),\"\"));\non(\"canvas\",\"dblclick\",()=>(LINE.range?zoomToRange():showAll()));\nfor(const id of [\"canvas\",\"ruler\"])connectDrag(id);\non(\"ruler\",\"click\",(event)=>!LINE.isDragged&&goTo(pointedAt(canvas,event).k));\nfor(const id of [\"rows\",\"scale-of-time\",\"strip\"])on(id,\"wheel\",onWheel,{passive:false});\nconnectOverview();\n}\nfunction connectDrag(id){\nconst at=(event)=>LINE.first+(event.clientX-byId(\"canvas\").getBoundingClientRect().left-LINE.label)/LINE.step;\non(id,\"pointerdown\",(event)=>{\nif(event.button||at(event)<LINE.first)return;\nLINE.isDragged=false;\nLINE.drag={from:at(event),x:event.clientX};\nbyId(id).setPointerCapture(event.pointerId);\n});\non(id,\"pointermove\",(event)=>{\nif(!LINE.drag||(!LINE.isDragged&&Math.abs(event.clientX-LINE.drag.x)<4))return;\nLINE.isDragged=true;\nconst [from,end]=[LINE.drag.from,at(event)].sort((a,b)=>a-b);\nsetRange({from:Math.floor(from),end:Math.ceil(end)},true);\n});\nfor(const name of [\"pointerup\",\"pointercancel\"]){\non(id,name,()=>{\nif(LINE.drag&&LINE.isDragged)setRange(LINE.range);\nLINE.drag=null;\n});\n}\n}\nfunction onWheel(event){\nconst x=event.clientX-byId(\"canvas\").getBoundingClientRect().left,isOnRows=event.currentTarget.id===\"rows\";\nconst sideways=event.shiftKey?event.deltaY||event.deltaX:Math.abs(event.deltaX)>Math.abs(event.deltaY)?event.deltaX:0;\nif(isOnRows&&!sideways&&!event.ctrlKey&&!event.metaKey)return;\nevent.preventDefault();\nif(sideways)LINE.first=clampFirst(LINE.first+Math.sign(sideways)*Math.max(1,(Math.abs(sideways)/2)/LINE.step));\nelse zoomAt(event.deltaY<0?0.8:1.25,Math.max(LINE.label,x));\ndrawSoon();\n}\nfunction drawSoon(){\nif(PAGE.frame)return;\nPAGE.frame=requestAnimationFrame(()=>{\nPAGE.frame=0;\ndrawTime();\n});\n}\nfunction connectOverview(){\nconst at=(event)=>RUN.begin+(event.clientX-byId(\"overview\").getBoundingClientRect().left-LINE.label)/overviewStep();\non(\"strip\",\"pointerdown\",(event)=>{\nLINE.drag={from:at(event),x:event.clientX};\nbyId(\"strip\").setPointerCapture(event.pointerId);\n});\non(\"strip\",\"pointermove\",(event)=>{\nif(!LINE.drag||Math.abs(event.clientX-LINE.drag.x)<4)return;\nconst [from,end]=[LINE.drag.from,at(event)].sort((a,b)=>a-b);\nshowCycles(Math.floor(from),Math.ceil(end));\ndrawSoon();\n});\non(\"strip\",\"pointerup\",(event)=>{\nif(LINE.drag&&Math.abs(event.clientX-LINE.drag.x)<4)LINE.first=clampFirst(at(event)-LINE.count/2);\nLINE.drag=null;\ndrawTime();\n});\n}\nfunction drawKeys(){\nfor(const place of document.querySelectorAll(\".key\")){\nconst canvas=document.createElement(\"canvas\");\ndrawBar(penOf(canvas,22,14),Number(place.dataset.kind),0,0,22,14,colours());\nplace.replaceChildren(canvas);\n}\n}\nfunction writeHead(){\nconst word=knowsEnd()?OUTCOME.word:\"cycles \"+RUN.first+\" to \"+RUN.last;\nsetText(byId(\"head\"),word);\nbyId(\"head\").className=knowsEnd()?OUTCOME.word:\"\";\nsetText(byId(\"sum\"),knowsEnd()?outcomeSentence():\"the run goes on to cycle \"+OUTCOME.cycles+\": \"+OUTCOME.word);\nconst size=\"grid \"+SET.columns+\" \"+SET.rows+\", limit \"+SET.limit+\", depth \"+SET.depth;\nconst begin=RUN.begin?\"; this page begins with cycle \"+RUN.begin:\"\";\nbyId(\"facts\").title=size;\nsetText(byId(\"facts\"),size+\"; \"+many(OUTCOME.cycles,\"cycle\")+\", \"+many(OUTCOME.steps,\"step\")+begin);\nsetText(byId(\"counts-head\"),\"counts of all processors \"+(RUN.begin?\"from cycle \"+RUN.begin+\" on \":\"\")+\"up to this cycle\");\ndocument.title=word+\" - grid \"+SET.columns+\" \"+SET.rows+\" - rawgrid explore\";\n}\nfunction writeControls(){\nfor(const id of [\"slide\",\"cycle\"])Object.assign(byId(id),{min:RUN.begin,max:RUN.end});\nfor(let p=0;p<SET.processors;p++)byId(\"pick\").append(make(\"option\",{value:p},nameOf(p)+\" #\"+p));\nfor(const name in ROWS)if(name!==\"the word's\"&&ROWS[name]().length)byId(\"which-rows\").append(make(\"option\",{},name));\nif(matchMedia(\"(prefers-reduced-motion: reduce)\").matches)byId(\"speed\").value=\"1\";\ndocument.body.classList.toggle(\"many\",IS_LARGE);\nif(RUN.width>1500&&SET.processors>30)document.body.classList.add(\"long\");\nbyId(\"fit\").checked=RUN.width>1500;\nif(document.body.classList.contains(\"long\"))byId(\"which-rows\").value=\"tiles\";\nLINE.rows=ROWS[byId(\"which-rows\").value]();\n}\nfunction start(){\nwriteHead();\nwriteControls();\n"

unfoldable pub tail_7 : List ℕ
tail_7 = codes "if(OUTCOME.told.size)PAGE.p=[...OUTCOME.told][0];\nif(knowsEnd()&&OUTCOME.word!==\"done\")PAGE.k=RUN.end;\nbuildGrid(byId(\"grid\"),choose);\nreadAddress();\nbyId(\"pick\").value=PAGE.p;\nconnectCycles();\nconnectPanel();\nconnectViews();\nconnectTimeline();\nconnectWindow();\ndrawKeys();\nredraw();\nredraw();\nshowRow(PAGE.p);\nshowBoxes(byId(\"grid\"),isTold(PAGE.k)&&OUTCOME.told.size?[...OUTCOME.told]:[PAGE.p]);\n}\nstart();\n</script>\n</body>\n</html>\n"

-- the page up to the place of the trace
unfoldable pub head : List ℕ
head = head_1 ++ head_2

unfoldable pub tail_a : List ℕ
tail_a = tail_1 ++ (tail_2 ++ (tail_3 ++ tail_4))

unfoldable pub tail_b : List ℕ
tail_b = tail_5 ++ (tail_6 ++ tail_7)

-- the page behind the trace
unfoldable pub tail : List ℕ
tail = tail_a ++ tail_b
