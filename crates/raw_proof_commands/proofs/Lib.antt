mod Scheduling
