mod SameTime
